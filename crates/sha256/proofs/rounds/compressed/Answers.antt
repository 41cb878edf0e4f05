use Rattle.std.proofs.Common.{refl, ap, ◌∙◌}
use Rattle.sha256.specs.Sha.{compress, added, rounds}
use Rattle.sha256.proofs.rounds.compressed.Goals as goal

pub returns : goal.returns
unfolding compress rounds
returns c =
    let s = c.args.s in
    let block = c.args.block.now in
    let r0 = c.four_rounds-p.ensures s block (record { worked = refl; slid = c.first_window.ensures }) in
    let r1 = c.four_rounds-p-2.ensures s block r0 in
    let r2 = c.four_rounds-p-3.ensures s block r1 in
    let r3 = c.four_rounds-p-4.ensures s block r2 in
    let r4 = c.four_rounds-p-5.ensures s block r3 in
    let r5 = c.four_rounds-p-6.ensures s block r4 in
    let r6 = c.four_rounds-p-7.ensures s block r5 in
    let r7 = c.four_rounds-p-8.ensures s block r6 in
    let r8 = c.four_rounds-p-9.ensures s block r7 in
    let r9 = c.four_rounds-p-10.ensures s block r8 in
    let r10 = c.four_rounds-p-11.ensures s block r9 in
    let r11 = c.four_rounds-p-12.ensures s block r10 in
    let r12 = c.four_rounds-p-13.ensures s block r11 in
    let r13 = c.four_rounds-p-14.ensures s block r12 in
    let r14 = c.four_rounds-p-15.ensures s block r13 in
    let r15 = c.four_rounds-p-16.ensures s block r14 in
    c.add.ensures ∙ ap (added s) r15.worked
