use Rattle.std.proofs.Common.{◌≡◌, ℕ, List, take, Decides, is_ok, sym, ap, ◌∙◌, subst}
use Rattle.std.proofs.lemmas.Bool.{both_ways}
use Rattle.std.proofs.lemmas.List.{take_at}
use Rattle.imprint.specs.Inputs.{bytes_of}
use Rattle.imprint.proofs.agreeing.is_imprint_of.Goals as goal

pub returns-then-is_ok : goal.returns-then-is_ok
returns-then-is_ok g c =
    let bytes = bytes_of c.args.input.now in
    let digested = c.digest_input.ensures in
    record {
      fits = λ few.
          let wrote = (digested.fits few).fits g.met.G.Digest.small.1 in
          let digest : take c.width.result c.digest_input.new.area ≡ g.G.Digest.value bytes =
          ap (take c.width.result) wrote.1 ∙ take_at _ _ c.width.result ((g.met.G.Digest.sized bytes).0 ∙ sym c.width.ensures) in
          subst (λ (x : List ℕ). Decides c.agrees.result (c.args.imprint.now ≡ x)) digest c.agrees.ensures;
      over = λ long. absurd (both_ways (is_ok c.digest_input.result) (ap is_ok (digested.over long).0) (sym c.if-is_ok.ensures.value));
    }

pub returns-else-is_ok : goal.returns-else-is_ok
returns-else-is_ok g c = record {
  fits = λ few.
      let wrote = (c.digest_input.ensures.fits few).fits g.met.G.Digest.small.1 in
      absurd (both_ways (is_ok c.digest_input.result) (sym c.if-is_ok.ensures.value) (ap is_ok wrote.0));
  over = λ long. c.if-is_ok.false;
}
