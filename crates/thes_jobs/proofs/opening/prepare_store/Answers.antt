use Rattle.std.proofs.Common.{refl, sym, ap, ◌∙◌, Err}
use Rattle.thes_base.specs.declared.fault.Fault.{Fault}
use Rattle.thes_command_line.specs.declared.trouble.StoreTrouble.{StoreTrouble}
use Rattle.thes_jobs.proofs.OpeningLemmas.{makes_in_blank}
use Rattle.thes_jobs.proofs.opening.prepare_store.Goals as goal

pub returns-in-MakeTables-clause-prepares : goal.returns-in-MakeTables-clause-prepares
returns-in-MakeTables-clause-prepares g c = record {
  is_blank = c.is_blank.result;
  blank = c.is_blank.ensures;
  prepares = rw (← c.preparation_of.ensures, c.in-MakeTables.is) c.make_marked_store.ensures.makes;
}

pub returns-in-RemoveMark-clause-prepares : goal.returns-in-RemoveMark-clause-prepares
returns-in-RemoveMark-clause-prepares g c = record {
  is_blank = c.is_blank.result;
  blank = c.is_blank.ensures;
  prepares = rw (← c.preparation_of.ensures, c.in-RemoveMark.is) (refl, refl);
}

pub returns-in-RefuseBlank-clause-prepares : goal.returns-in-RefuseBlank-clause-prepares
returns-in-RefuseBlank-clause-prepares g c = record {
  is_blank = c.is_blank.result;
  blank = c.is_blank.ensures;
  prepares = rw (← c.preparation_of.ensures, c.in-RefuseBlank.is)
      (ap (λ (f : StoreTrouble × Fault). Err f) c.blank_fault.ensures, refl);
}

pub returns-in-MakeTables-clause-keeps : goal.returns-in-MakeTables-clause-keeps
returns-in-MakeTables-clause-keeps g c = c.make_marked_store.ensures.keeps (c.is_blank.ensures.0
    (makes_in_blank c.args.store.now.opening c.is_blank.result
    (sym c.preparation_of.ensures ∙ c.in-MakeTables.is)))

pub returns-in-MakeTables-clause-settles : goal.returns-in-MakeTables-clause-settles
returns-in-MakeTables-clause-settles g c = c.make_marked_store.ensures.settles (c.is_blank.ensures.0
    (makes_in_blank c.args.store.now.opening c.is_blank.result
    (sym c.preparation_of.ensures ∙ c.in-MakeTables.is)))

pub returns-in-RemoveMark-clause-settles : goal.returns-in-RemoveMark-clause-settles
returns-in-RemoveMark-clause-settles g c = record { was = λ up. up; is_settled = λ up settled. settled }

pub returns-in-RefuseBlank-clause-settles : goal.returns-in-RefuseBlank-clause-settles
returns-in-RefuseBlank-clause-settles g c = record { was = λ up. up; is_settled = λ up settled. settled }
