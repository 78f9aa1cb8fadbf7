-- `list_all` is safe and ends: the lister goes on from round to round.
use Rattle.std.proofs.Common.{arith, ap}
use Rattle.list_line.specs.Listing.{opened}
use Rattle.list_stream.proofs.RoundLaws.{round_fits}
use Rattle.session_list.proofs.list_all.Goals as goal

pub loop-init : goal.loop-init
unfolding opened
loop-init c =
    let e = c.start-lister.ensures in
    let r = c.read-place.ensures in
    record {
      fit = record { alphabet = ap (λ r. r.q) e.0; variables = ap (λ r. r.m) e.0 };
      room = c.requires.1;
      got = r.0;
      at = omega (arith, r.1);
    }

pub go_on-requires : goal.go_on-requires
go_on-requires c =
    let i = c.loop.invariant in
    let f = round_fits _ _ _ _ _ _ _ _ c.loop.place.read i.got i.at c.list_round-round.ensures in
    (i.got, f.2)

pub loop-preserved : goal.loop-preserved
loop-preserved c =
    let i = c.loop.invariant in
    let f = round_fits _ _ _ _ _ _ _ _ c.loop.place.read i.got i.at c.list_round-round.ensures in
    let b = c.in-Some.ensures.bounds in
    record { fit = f.0; room = omega (arith, i.room, c.list_round-round.auto.out); got = b.0; at = b.1 }
