use Rattle.walk.proofs.StartLaws.{start_stops, start_sound, start_goes}
use Rattle.walk.proofs.start_of.Goals as goal

pub returns-in_default : goal.returns-in_default
returns-in_default c = start_stops _ _ _ _ c.walk_check-checked.ensures _ c.refusal.ensures

pub invariant_of-table : goal.invariant_of-table
invariant_of-table c = record { sound = (start_sound _ _ _ _ c.walk_check-checked.ensures _ c.in-Sound.is).0 }

pub first_path-requires : goal.first_path-requires
first_path-requires c = (start_sound _ _ _ _ c.walk_check-checked.ensures _ c.in-Sound.is).1

pub returns : goal.returns
returns c = start_goes _ _ _ _ c.walk_check-checked.ensures _ c.in-Sound.is _ c.first_path.ensures
