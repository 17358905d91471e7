use Rattle.std.proofs.Common.{arith, rules}
use Rattle.granule_rows.specs.Starts.{IsNearLongest}
use Rattle.granule_rows.proofs.WordLaws.{AreStarts-one, AreStarts-twice, HasRun-start, IsNearLongest-one}
use Rattle.granule_rows.proofs.word.longest_run.Goals.{After-longer}
use Rattle.granule_rows.proofs.word.longest_run.Goals as goal

near : (c : After-longer) → IsNearLongest c.args.word c.longer.result 1
near c =
    let w = c.args.word in
    let one = AreStarts-one w in
    let two = AreStarts-twice w _ 1 one in
    let four = AreStarts-twice w _ 2 two in
    let eight = AreStarts-twice w _ 4 four in
    let sixteen = AreStarts-twice w _ 8 eight in
    let thirty_two = AreStarts-twice w _ 16 sixteen in
    let near_32 = c.longer-near_32.ensures.near w thirty_two (IsNearLongest-one w (omega arith) c.ranges.word.fits) in
    let near_16 = c.longer-near_16.ensures.near w sixteen near_32 in
    let near_8 = c.longer-near_8.ensures.near w eight near_16 in
    let near_4 = c.longer-near_4.ensures.near w four near_8 in
    let near_2 = c.longer-near_2.ensures.near w two near_4 in
    c.longer.ensures.near w one near_2

pub returns-clause-run : goal.returns-clause-run
returns-clause-run c = let done = near c in HasRun-start _ _ _ done.starts done.some (search rules)

pub returns-clause-most : goal.returns-clause-most
returns-clause-most c = λ q n run. omega (arith, (near c).most q n run)
