use Rattle.rehearsal.proofs.Openings.{if_ok, rehearsed_nothing, rehearsed_bad, rehearsed_opened}
use Rattle.rehearsal.proofs.rehearsing.rehearse.Goals as goal

pub returns-in_default : goal.returns-in_default
returns-in_default c = if_ok c.line_of.result (λ v q. rehearsed_nothing _ _ _ _ c.in_default.ensures.steps c.refuses-cut.ensures q) c.line_of.ensures

pub returns-in-Err : goal.returns-in-Err
returns-in-Err c = if_ok c.line_of-in-Err.result (λ v q. rehearsed_bad _ _ _ _ _ c.in-Some.ensures.steps c.due_opening-opening.ensures _ c.in-Err.is q) c.line_of-in-Err.ensures

pub returns-in-Ok : goal.returns-in-Ok
returns-in-Ok c = if_ok c.fly_pile.result (λ v q. rehearsed_opened _ _ _ _ _ c.in-Some.ensures.steps c.due_opening-opening.ensures _ c.in-Ok.is q) c.fly_pile.ensures
