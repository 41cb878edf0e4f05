use Rattle.std.proofs.Common.{◌≡◌, ◌+◌, ◌++◌, length, arith}
use Rattle.grow.specs.Frames.{plug}
use Rattle.grow.proofs.Plugs.{header_most}
use Rattle.grow.proofs.Fits.{too_long, no_room, fits}
use Rattle.grow.proofs.Sizes.{ahead_place, ahead_header, ahead_size, ahead_most, ahead_on, ahead_end, total_most}
use Rattle.grow.proofs.Inserts.{length_appended}
use Rattle.grow.proofs.measuring.measure_append.Goals as goal

pub returns-then-file-gt-MOST : goal.returns-then-file-gt-MOST
returns-then-file-gt-MOST c fs body new e m =
    too_long _ (length (plug fs (body ++ new)))
    (omega (arith, length_appended fs body new c.args.more m, total_most _ _ c.args.more fs body e, c.then-file-gt-MOST.either))

pub header_at-header-requires : goal.header_at-header-requires
header_at-header-requires c =
    let a = c.loop-place.invariant.1 c.requires.path.0 c.requires.path.1 c.requires.path.2 in
    record {
      within = ahead_place _ _ c.loop-place.place-index _ _ c.loop-place-test.true (omega arith) a;
      header = ahead_header _ _ c.loop-place.place-index _ _ c.loop-place-test.true (omega arith) a;
    }

pub overflow_add-size : goal.overflow_add-size
overflow_add-size c =
    let a = c.loop-place.invariant.1 c.requires.path.0 c.requires.path.1 c.requires.path.2 in
    omega (arith, c.loop-place.invariant.0, ahead_size _ _ c.loop-place.place-index _ _ c.loop-place-test.true (omega arith) a c.header_at-header.result c.header_at-header.ensures)

pub returns-then-size-gt-MOST : goal.returns-then-size-gt-MOST
returns-then-size-gt-MOST c fs body new e m =
    let a = c.loop-place.invariant.1 fs body e in
    too_long _ (length (plug fs (body ++ new)))
    (omega (arith, length_appended fs body new c.args.more m, c.if-size-gt-MOST.true, ahead_most _ _ c.loop-place.place-index _ _ c.loop-place-test.true (omega arith) a c.header_at-header.result c.header_at-header.ensures))

pub loop-place-preserved : goal.loop-place-preserved
loop-place-preserved c = (
  omega (arith, c.if-size-gt-MOST.false, c.header_size.ensures, header_most (c.header_at-header.result.size + c.loop-place.grow)),
  λ fs body e.
      rw c.header_size.ensures
      (ahead_on _ _ c.loop-place.place-index _ _ c.loop-place-test.true (omega arith) (c.loop-place.invariant.1 fs body e) c.header_at-header.result c.header_at-header.ensures),
)

pub returns-then-length-gt-MOST : goal.returns-then-length-gt-MOST
returns-then-length-gt-MOST c fs body new e m =
    too_long _ (length (plug fs (body ++ new)))
    (omega (arith, length_appended fs body new c.args.more m, c.if-length-gt-MOST.true, ahead_end _ _ c.loop-place.place-index _ _ c.loop-place-test.false (c.loop-place.invariant.1 fs body e)))

pub returns-then-length-room : goal.returns-then-length-room
returns-then-length-room c fs body new e m =
    let k : length c.args.file.now + c.loop-place.grow ≡ length (plug fs (body ++ new)) =
    omega (arith, length_appended fs body new c.args.more m, ahead_end _ _ c.loop-place.place-index _ _ c.loop-place-test.false (c.loop-place.invariant.1 fs body e)) in
    no_room _ (length (plug fs (body ++ new))) (omega (arith, c.if-length-gt-MOST.false)) (omega (arith, c.if-length-room.true))

pub returns-else-length-room : goal.returns-else-length-room
returns-else-length-room c fs body new e m =
    let k : length c.args.file.now + c.loop-place.grow ≡ length (plug fs (body ++ new)) =
    omega (arith, length_appended fs body new c.args.more m, ahead_end _ _ c.loop-place.place-index _ _ c.loop-place-test.false (c.loop-place.invariant.1 fs body e)) in
    fits _ _ (length (plug fs (body ++ new))) k (omega (arith, c.if-length-gt-MOST.false)) (omega (arith, c.if-length-room.false))
