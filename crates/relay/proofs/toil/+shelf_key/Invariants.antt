use Rattle.relay.proofs.toil.+shelf_key.Given as goal

abbrev pub decreases-shelf_key : goal.decreases-shelf_key
decreases-shelf_key l = l.n
