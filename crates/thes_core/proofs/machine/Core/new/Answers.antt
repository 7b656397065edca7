use Rattle.std.proofs.Common.{subst, arith}
use Rattle.thes_base.specs.Forms.{IsBase}
use Rattle.thes_base.specs.Refusals.{IsSetting}
use Rattle.thes_core.specs.declared.thesaurus.Thesaurus.{Thesaurus}
use Rattle.thes_core.proofs.ApplyLemmas.{fit_empty, held_empty}
use Rattle.thes_core.proofs.machine.Core.new.Goals as goal
use Rattle.thes_core.proofs.machine.Core.new.Goals.{After-new-3}

-- The parts of the new core.
abbrev parts : After-new-3 → Thesaurus
parts c =
    record {
      alloc = c.args.alloc;
      vocab = c.new.result;
      graph = c.new-2.result;
      book = c.new-3.result;
      limits = c.args.limits;
    }

-- The base and the limits of the new core are valid.
setting : (c : After-new-3) → IsSetting (record { base = c.args.base; limits = c.args.limits })
setting c = record {
  base_form = subst IsBase c.as_str.ensures.text c.as_str.ensures.form;
  limits = record {
    resources = omega arith;
    labels = omega arith;
    links = omega arith;
    postings = omega arith;
    moves = omega arith;
  };
}

pub invariant_of-result : goal.invariant_of-result
invariant_of-result c = λ _.
    let after = (goal.at.invariant_of-result c).After-new-3 in
    fit_empty (parts after) c.args.base (setting after) c.new.ensures c.new-2.ensures c.new-3.ensures

pub returns-clause-holds : goal.returns-clause-holds
returns-clause-holds c =
    let after = (goal.at.returns-clause-holds c).After-new-3 in
    held_empty (parts after) c.args.base (setting after) c.new.ensures c.new-2.ensures c.new-3.ensures
