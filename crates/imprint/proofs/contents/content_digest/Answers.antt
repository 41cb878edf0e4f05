use Rattle.std.proofs.Common.{ap}
use Rattle.content.specs.Contents.{content_in}
use Rattle.imprint.specs.Contents.{given_bytes}
use Rattle.imprint.proofs.Choosing.{found_own, not_refused, own_digests, both_told, digests_at, digests_in_lem}
use Rattle.imprint.proofs.contents.content_digest.Goals as goal

pub returns-in-Some-None : goal.returns-in-Some-None
returns-in-Some-None g c =
    let D = g.G.Digest.value in
    let found = c.content_of.ensures in
    let answer = own_digests D c.in_ok-own.own c.in-Some-None.content _ c.digest_of-in-Some-None.result
    c.in-Some-None.is-0 (ap (given_bytes g.S.Source.bytes) c.in-Some-None.is-1) c.digest_of-in-Some-None.ensures in
    record {
      computed = digests_in_lem D c.in_ok-own.own _ _ answer (content_in c.args.file.now c.args.message.now.info.content) (found_own _ _ _ _ c.in_ok-own.ensures.cases c.in_ok-own.ensures.variant found.computed);
      meaning = λ settings levels f k m. digests_at D c.in_ok-own.own _ _ answer _ (found_own _ _ _ _ c.in_ok-own.ensures.cases c.in_ok-own.ensures.variant (found.meaning settings f levels k.shape k.valid k.bytes_are m));
    }

pub returns-in-Some-Some : goal.returns-in-Some-Some
returns-in-Some-Some g c =
    let D = g.G.Digest.value in
    let found = c.content_of.ensures in
    let answer = both_told D c.in_ok-own.own c.in-Some-Some.field-0-0 _ _ c.in-Some-Some.is-0 (ap (given_bytes g.S.Source.bytes) c.in-Some-Some.is-1) in
    record {
      computed = digests_in_lem D c.in_ok-own.own _ _ answer (content_in c.args.file.now c.args.message.now.info.content) (found_own _ _ _ _ c.in_ok-own.ensures.cases c.in_ok-own.ensures.variant found.computed);
      meaning = λ settings levels f k m. digests_at D c.in_ok-own.own _ _ answer _ (found_own _ _ _ _ c.in_ok-own.ensures.cases c.in_ok-own.ensures.variant (found.meaning settings f levels k.shape k.valid k.bytes_are m));
    }

pub returns-in_err-own-clause-meaning : goal.returns-in_err-own-clause-meaning
returns-in_err-own-clause-meaning g c settings levels f k m =
    absurd (not_refused _ _ (c.content_of.ensures.meaning settings f levels k.shape k.valid k.bytes_are m) c.in_err-own.ensures.variant)
