use Rattle.std.proofs.Common.{◌≡◌, ℕ, ◌+◌, ◌-◌, List, [], ◌++◌, length, sym, refl, ap, ◌∙◌, subst, arith}
use Rattle.std.proofs.lemmas.List.{append-nil, append_assoc, length-append}
use Rattle.digest.specs.Read.{Read}
use Rattle.content.specs.Segments.{joined_in, joined_of}
use Rattle.content.proofs.Joining.{Turn, turn, no_turn}
use Rattle.content.proofs.Filling.{read_none, read_next, read_full}
use Rattle.content.proofs.segments.read_segments.Goals as goal

-- the segment of a turn
turned : (c : goal.After-slice_known-in-loop-filled-1) →
    Turn c.args.segments.bytes.now c.loop-filled.reader.at c.args.segments.end c.contents-contents.result.now c.next.new.self.at
turned c =
    let reads = c.in-Ok.ensures.reads in
    turn _ _ _ _ _ _ _ _ _ c.loop-filled.invariant.0 c.loop-filled.invariant.1 reads.1 reads.0 c.contents-contents.ensures

pub loop-filled-init : goal.loop-filled-init
loop-filled-init c = (refl, refl, omega arith, ([], refl, refl, read_none c.args.place c.args.block.now))

pub returns-in_default : goal.returns-in_default
returns-in_default c =
    let inv = c.loop-filled.invariant in
    let before = inv.3.0 in
    let none : joined_in c.args.segments.bytes.now c.loop-filled.reader.at c.args.segments.end ≡ [] =
    no_turn c.args.segments.bytes.now _ c.loop-filled.reader.at c.args.segments.end _ _ inv.0 inv.1 c.in_default.ensures.reads.read in
    let all : joined_of c.args.segments ≡ before = inv.3.2 ∙ ap (λ (x : List ℕ). before ++ x) none ∙ append-nil before in
    let Reads : List ℕ → Type 0 = λ bytes. Read bytes c.args.place c.args.block.now c.loop-filled.block c.loop-filled.filled in
    subst Reads (sym all) inv.3.3

pub overflow_add-passed : goal.overflow_add-passed
overflow_add-passed c =
    let t = turned c in
    record { fits = omega (arith, t.ahead, t.within, c.loop-filled.invariant.2, c.ranges.segments.0) }

pub loop-filled-preserved : goal.loop-filled-preserved
loop-filled-preserved c =
    let inv = c.loop-filled.invariant in
    let stands = c.next.ensures.stands in
    let t = turned c in
    let before = inv.3.0 in
    let contents = c.contents-contents.result.now in
    let from : c.saturating_sub.result ≡ c.args.place - length before = c.saturating_sub.ensures ∙ ap (λ (n : ℕ). c.args.place - n) (sym inv.3.1) in (
      stands.0 ∙ inv.0,
      stands.1 ∙ inv.1,
      omega (arith, t.ahead, inv.2),
      (
        before ++ contents,
        length-append before contents ∙ ap (λ (n : ℕ). n + length contents) inv.3.1,
        inv.3.2 ∙ ap (λ (x : List ℕ). before ++ x) t.joined ∙ sym (append_assoc before contents _),
        read_next before contents c.args.place c.saturating_sub.result c.args.block.now c.loop-filled.block c.copy_part-filled.new.block _ _ from inv.3.3 c.copy_part-filled.ensures,
      ),
    )

pub returns : goal.returns
returns c =
    let inv = c.loop-filled.invariant in
    let Reads : List ℕ → Type 0 = λ bytes. Read bytes c.args.place c.args.block.now c.loop-filled.block c.loop-filled.filled in
    subst Reads (sym inv.3.2) (read_full inv.3.0 _ c.args.place c.args.block.now c.loop-filled.block c.loop-filled.filled inv.3.3 c.loop-filled-test.false)
