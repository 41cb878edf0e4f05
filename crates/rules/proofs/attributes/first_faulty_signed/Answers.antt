use Rattle.std.proofs.Common.{[], ◌∷◌, ◌++◌, sym, refl, ap, ◌∙◌, subst, arith}
use Rattle.der.specs.declared.reader.Reader.{Reader}
use Rattle.cms.specs.Records.{attribute_of, attribute_stop}
use Rattle.fields.specs.Runs.{run_of}
use Rattle.fields.proofs.Runs.{lying_on, lying_end}
use Rattle.rules.specs.Attributes.{faulty_signed, first_faulty}
use Rattle.rules.specs.Standing.{Row}
use Rattle.rules.proofs.Reading.{rows_join, row_empty}
use Rattle.rules.proofs.Lying.{Fits, Attributes, row_lying, faulty_found, faulty_missed}
use Rattle.rules.proofs.attributes.first_faulty_signed.Goals as goal

pub loop-attribute-init : goal.loop-attribute-init
loop-attribute-init c = (
  tt,
  tt,
  (λ levels ms expected r e.
      let file = c.args.signed.bytes.now in
      let at = c.args.signed.at in
      let end = c.args.signed.end in
      let same = ap (λ run. run.reader) c.into_iter-attribute-iterator.ensures.into_iter_gives ∙ c.of-attribute-items.ensures in
      let l = subst (λ (reader : Reader). Attributes levels file end at ms (run_of attribute_of attribute_stop reader)) (sym same) (row_lying levels file end at ms r) in
      (at, [], ms, row_empty levels file at (omega (arith, r.order, r.inside)), l, refl)),
)

pub returns-then-is_faulty_signed : goal.returns-then-is_faulty_signed
returns-then-is_faulty_signed c = λ levels ms expected r e.
    let file = c.args.signed.bytes.now in
    let left = c.loop-attribute.invariant.2 levels ms expected r e in
    let x = c.in-Some.attribute in
    let t = lying_on (Fits levels file) attribute_stop left.0 left.2 x _ _ c.in-Some.ensures.steps left.4 in
    let before = subst (λ a. Row levels file c.args.signed.at a left.1) (sym t.fits.start) left.3 in
    faulty_found (faulty_signed expected) levels file left.0 left.1 left.2 x _ t
    (sym (c.is_faulty_signed.ensures levels _ file left.1 t.first expected refl before t.fits.there e) ∙ c.if-is_faulty_signed.true)
    ∙ sym left.5

pub loop-attribute-preserved : goal.loop-attribute-preserved
loop-attribute-preserved c = (
  tt,
  tt,
  (λ levels ms expected r e.
      let file = c.args.signed.bytes.now in
      let left = c.loop-attribute.invariant.2 levels ms expected r e in
      let x = c.in-Some.attribute in
      let t = lying_on (Fits levels file) attribute_stop left.0 left.2 x _ _ c.in-Some.ensures.steps left.4 in
      let before = subst (λ a. Row levels file c.args.signed.at a left.1) (sym t.fits.start) left.3 in
      let m = faulty_missed (faulty_signed expected) levels file left.0 left.1 left.2 x _ t
      (sym (c.is_faulty_signed.ensures levels _ file left.1 t.first expected refl before t.fits.there e) ∙ c.if-is_faulty_signed.false) in
      let front = rows_join levels file c.args.signed.at left.0 (attribute_stop x) left.1 (t.first ∷ []) left.3 t.fits.alone in
      (attribute_stop x, left.1 ++ t.first ∷ [], t.tail, front, t.others, left.5 ∙ m)),
)

pub returns : goal.returns
returns c = λ levels ms expected r e.
    let left = c.loop-attribute.invariant.2 levels ms expected r e in
    sym (left.5 ∙ ap (first_faulty (faulty_signed expected) left.1 left.0) (lying_end (Fits levels c.args.signed.bytes.now) attribute_stop left.0 left.2 _ c.in-None.ensures.steps.0 left.4))
