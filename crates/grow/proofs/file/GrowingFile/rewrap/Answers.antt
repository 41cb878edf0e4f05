use Rattle.std.proofs.Common.{◌≡◌, ℕ, ◌+◌, ◌-◌, List, ◌++◌, get_or, take, drop, sym, refl, ap, ◌∙◌, subst, arith}
use Rattle.std.proofs.lemmas.List.{length-take-le, take-take}
use Rattle.der.specs.Headers.{header_size_of}
use Rattle.der.specs.Trees.{header_bytes}
use Rattle.grow.specs.Frames.{plug}
use Rattle.grow.specs.Changes.{file_in}
use Rattle.grow.proofs.Plugs.{header_most}
use Rattle.grow.proofs.Rewraps.{Behind, still_short, behind_place, behind_header, behind_ends, behind_grows, behind_most, behind_on, behind_room, behind_end, further, wrapped}
use Rattle.grow.proofs.file.GrowingFile.rewrap.Goals as goal

pub loop-place-init : goal.loop-place-init
loop-place-init c = (record { name = refl; room = refl }, refl, λ fs m body s. (fs, m, body, s, refl))

pub header_at-header-requires : goal.header_at-header-requires
header_at-header-requires c =
    let p = c.requires.path in
    let a = c.loop-place.invariant.2 p.0 p.1 p.2 p.3 in
    let s = still_short _ _ _ _ a p.4.short in
    let i = c.loop-place.place-index in
    let l = c.loop-place-test.true in
    record {
      within = behind_place _ _ i _ _ l s a _ c.bytes.ensures;
      header = behind_header _ _ i _ _ l s a _ c.bytes.ensures;
    }

pub overflow_add-header : goal.overflow_add-header
overflow_add-header c =
    let p = c.requires.path in
    let a = c.loop-place.invariant.2 p.0 p.1 p.2 p.3 in
    let s = still_short _ _ _ _ a p.4.short in
    omega (arith, behind_most _ _ c.loop-place.place-index _ _ c.loop-place-test.true s a _ c.bytes.ensures c.header_at-header.result c.header_at-header.ensures, p.4.short)

pub rewrite_header-grow-requires : goal.rewrite_header-grow-requires
rewrite_header-grow-requires c =
    let p = c.requires.path in
    let a = c.loop-place.invariant.2 p.0 p.1 p.2 p.3 in
    let s = still_short _ _ _ _ a p.4.short in
    let h = c.header_at-header.result in
    let e = c.header_at-header.ensures in
    let i = c.loop-place.place-index in
    let l = c.loop-place-test.true in
    let n = length-take-le c.loop-place.self.end c.loop-place.self.buffer.now c.loop-place.self.within in
    record {
      within = omega (arith, n, behind_ends _ _ i _ _ l s a _ c.bytes.ensures h e);
      grows = behind_grows _ _ i _ _ l s a _ c.bytes.ensures h e;
      short = omega (arith, behind_most _ _ i _ _ l s a _ c.bytes.ensures h e, p.4.short);
      room = omega (arith, n, behind_room _ _ i _ _ l s a _ c.bytes.ensures h e, p.4.room, c.loop-place.invariant.0.room);
    }

pub overflow_add-grow : goal.overflow_add-grow
overflow_add-grow c =
    let p = c.requires.path in
    let a = c.loop-place.invariant.2 p.0 p.1 p.2 p.3 in
    let s = still_short _ _ _ _ a p.4.short in
    let h = c.header_at-header.result in
    omega (
      arith,
      behind_most _ _ c.loop-place.place-index _ _ c.loop-place-test.true s a _ c.bytes.ensures h c.header_at-header.ensures,
      p.4.short,
      c.rewrite_header-grow.ensures.more,
      header_most (h.size + c.loop-place.grow),
    )

pub loop-place-preserved : goal.loop-place-preserved
loop-place-preserved c =
    let was = c.loop-place.self in
    let is = c.rewrite_header-grow.new.self in
    let h = c.header_at-header.result in
    let e = c.header_at-header.ensures in
    let i = c.loop-place.place-index in
    let l = c.loop-place-test.true in
    let place : ℕ = get_or c.args.path.now i 0 in
    let p = c.requires.path in
    let a = c.loop-place.invariant.2 p.0 p.1 p.2 p.3 in
    let s = still_short _ _ _ _ a p.4.short in
    let head : List ℕ = header_bytes h.tag (h.size + c.loop-place.grow) in
    let more = c.rewrite_header-grow.ensures.more in
    let step : is.end ≡ was.end + (header_size_of (h.size + c.loop-place.grow) - h.head) = c.rewrite_header-grow.ensures.end ∙ ap (λ (x : ℕ). was.end + x) more in
    let n = length-take-le was.end was.buffer.now was.within in
    let file : file_in is ≡ take place (file_in was) ++ (head ++ drop (place + h.head) (file_in was)) =
    ap (λ (x : ℕ). take x is.buffer.now) step
    ∙ c.rewrite_header-grow.ensures.bytes.file
    ∙ ap (λ (x : List ℕ). x ++ (head ++ drop (place + h.head) (file_in was)))
    (sym (take-take place was.end was.buffer.now (omega (arith, n, behind_ends _ _ i _ _ l s a _ c.bytes.ensures h e)))) in (
      record {
        name = c.rewrite_header-grow.ensures.same_buffer.name ∙ c.loop-place.invariant.0.name;
        room = c.rewrite_header-grow.ensures.same_buffer.room ∙ c.loop-place.invariant.0.room;
      },
      ap (λ (x : ℕ). drop x is.buffer.now) step ∙ c.rewrite_header-grow.ensures.bytes.behind ∙ ap (λ (x : ℕ). drop x was.buffer.now) (sym step)
          ∙ further was.end is.end _ _ (omega (arith, step)) c.loop-place.invariant.1,
      λ fs m body st.
          subst (λ (x : ℕ). Behind (file_in is) (drop (i + 1) c.args.path.now) (c.loop-place.grow + x) (plug fs body)) (sym more)
          (behind_on _ _ i _ _ l s (c.loop-place.invariant.2 fs m body st) _ c.bytes.ensures h e _ file),
    )

pub returns : goal.returns
returns c = record {
  same_buffer = c.loop-place.invariant.0;
  wrapped = λ fs m body s.
      wrapped c.args.self.now c.loop-place.self (plug fs body)
      (behind_end _ _ c.loop-place.place-index _ _ c.loop-place-test.false (c.loop-place.invariant.2 fs m body s)) c.loop-place.invariant.1;
}
