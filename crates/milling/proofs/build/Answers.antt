use Rattle.std.proofs.Common.{refl, ap, ◌∙◌}
use Rattle.refusal.specs.Buffers.{output_after}
use Rattle.refusal.specs.Verdict.{Verdict, replied}
use Rattle.milling.proofs.MillLaws.{builds-dnf, builds-cnf}
use Rattle.milling.proofs.build.Goals as goal

pub returns-in-Dnf-clause-result_value : goal.returns-in-Dnf-clause-result_value
returns-in-Dnf-clause-result_value c = c.mk_dnf.ensures.result_value ∙ ap replied (builds-dnf c.args.n c.args.count c.args.clauses.now c.args.form c.in-Dnf.is _ _ c.requires refl)

pub returns-in-Dnf-clause-nodes_after : goal.returns-in-Dnf-clause-nodes_after
returns-in-Dnf-clause-nodes_after c = c.mk_dnf.ensures.out_after ∙ ap (λ (v : Verdict). output_after 0 v c.args.nodes.now) (builds-dnf c.args.n c.args.count c.args.clauses.now c.args.form c.in-Dnf.is _ _ c.requires refl)

pub returns-in-Cnf-clause-result_value : goal.returns-in-Cnf-clause-result_value
returns-in-Cnf-clause-result_value c = c.mk_cnf.ensures.result_value ∙ ap replied (builds-cnf c.args.n c.args.count c.args.clauses.now c.args.form c.in-Cnf.is _ _ c.requires refl)

pub returns-in-Cnf-clause-nodes_after : goal.returns-in-Cnf-clause-nodes_after
returns-in-Cnf-clause-nodes_after c = c.mk_cnf.ensures.out_after ∙ ap (λ (v : Verdict). output_after 0 v c.args.nodes.now) (builds-cnf c.args.n c.args.count c.args.clauses.now c.args.form c.in-Cnf.is _ _ c.requires refl)
