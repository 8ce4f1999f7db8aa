-- `write_short`: the memory emptied, the table reduced, its short list made.
use Rattle.held.proofs.HeldLaws.{canonical_of}
use Rattle.short.proofs.EntryLaws.{none_known, table_over, tab, done_nodes, done_many, done_clauses}
use Rattle.short.proofs.write_short.Goals as goal

pub returns-in_default : goal.returns-in_default
returns-in_default c = rw c.over.ensures (table_over _ _ _ _ _ _ c.reduce-reduced.ensures _ c.in_default.is c.args.out.now c.args.out.now)

pub invariant_of-function : goal.invariant_of-function
invariant_of-function c = record { canonical = canonical_of _ _ _ _ _ (tab _ _ _ _ _ _ c.reduce-reduced.ensures _ c.in-Ok.is) c.args.table.sound.marks c.requires.rooms.some c.requires.rooms.few }

pub short_list-requires-clause-remembers : goal.short_list-requires-clause-remembers
short_list-requires-clause-remembers c = none_known _ _ _ _ (c.fill.ensures.after (λ y e. e))

pub returns-in-Ok-short_list : goal.returns-in-Ok-short_list
returns-in-Ok-short_list c = done_clauses _ _ _ _ _ _ c.reduce-reduced.ensures _ c.in-Ok.is _ _ c.short_list.auto.out _ c.in-Ok-short_list.ensures

pub returns-in-Err-Nodes : goal.returns-in-Err-Nodes
returns-in-Err-Nodes c = rw c.over-in-Err-Nodes.ensures (done_nodes _ _ _ _ _ _ c.reduce-reduced.ensures _ c.in-Ok.is _ _ c.short_list.auto.out _ c.in-Err-Nodes.field-0-is c.in-Err-Nodes.ensures)

pub returns-in-Err-Clauses : goal.returns-in-Err-Clauses
returns-in-Err-Clauses c = rw c.over-in-Err-Clauses.ensures (done_many _ _ _ _ _ _ c.reduce-reduced.ensures _ c.in-Ok.is _ _ c.short_list.auto.out _ c.in-Err-Clauses.field-0-is c.in-Err-Clauses.ensures)
