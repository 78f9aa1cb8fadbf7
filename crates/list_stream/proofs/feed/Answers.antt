-- `feed` meets its contract.
use Rattle.std.proofs.Common.{rules, tests, arith}
use Rattle.text_chunks.specs.Kept.{kept_bytes}
use Rattle.text_chunks.proofs.PartLaws.{remaining, remaining_length, run_none, run_more, run_done}
use Rattle.list_stream.specs.Stream.{reader, progress}
use Rattle.text_chunks.proofs.CountLaws.{count_over, count_full}
use Rattle.list_stream.proofs.feed.Goals as goal

pub loop-fed-init : goal.loop-fed-init
loop-fed-init c = (omega arith, c.requires, run_none reader _ _)

pub loop-fed-preserved : goal.loop-fed-preserved
unfolding remaining
loop-fed-preserved c =
    let l = c.loop-fed in
    let e = c.read_line-step.ensures in (
      omega (arith, remaining_length c.args.chunk.now l.fed.read, e.took.bound, l.invariant.0),
      e.fit,
      run_more reader _ c.args.out.now c.args.chunk.now l.fed.read _ _ _ _ _ _ _ l.invariant.2 e.took c.read_line-step.auto.out,
    )

pub returns-else-out-fed-ge64-clause-read : goal.returns-else-out-fed-ge64-clause-read
returns-else-out-fed-ge64-clause-read c =
    let l = c.loop-fed in
    let r = l.invariant.2 in
    run_done reader _ _ _ l.fed.read _ _ _ l.invariant.0 r (count_full reader _ _ _ (omega (arith, r.size, r.room, c.if-out-fed-ge64.false)))

pub returns-else-not-fed-clause-read : goal.returns-else-not-fed-clause-read
unfolding progress
returns-else-not-fed-clause-read c =
    let l = c.loop-fed in
    run_done reader _ _ _ l.fed.read _ _ _ l.invariant.0 l.invariant.2 (count_over reader (progress l.fed.lister (kept_bytes l.line)) _ _ (search (rules, tests)))
