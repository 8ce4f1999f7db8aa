use mathlib.Core.Path.{sym, ◌∙◌}
use Rattle.posting.proofs.Chosen.{posts-dnf, posts-cnf}
use Rattle.posting.proofs.choose_posting.Goals as goal

pub returns-then-measure_of : goal.returns-then-measure_of
returns-then-measure_of c = let a = posts-dnf _ _ _ _ c.measure_of.ensures c.measure_of-2.ensures c.if-measure_of.true in
    record {
      result_value = c.whole_clauses.ensures.result_value ∙ sym a.1;
      ref_ptr_value = rw a.0 c.whole_clauses.ensures.ref_ptr_value;
    }

pub returns-else-measure_of : goal.returns-else-measure_of
returns-else-measure_of c = let a = posts-cnf _ _ _ _ c.measure_of.ensures c.measure_of-2.ensures c.if-measure_of.false in
    record {
      result_value = c.whole_clauses-else-measure_of.ensures.result_value ∙ sym a.1;
      ref_ptr_value = rw a.0 c.whole_clauses-else-measure_of.ensures.ref_ptr_value;
    }
