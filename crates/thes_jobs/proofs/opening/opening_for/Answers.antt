use Rattle.std.proofs.Common.{◌∙◌, inl, inr, refl, sym}
use Rattle.thes_jobs.proofs.opening.opening_for.Goals as goal

pub returns-in-Some : goal.returns-in-Some
returns-in-Some c = inl (c.has_long_name.result, c.has_long_name.ensures, sym c.name_trouble.ensures ∙ c.in-Some.is)

pub returns-in-Ok : goal.returns-in-Ok
returns-in-Ok c = (c.is_there.result, sym c.opening_of.ensures ∙ c.in-Ok.is)

pub returns-in-Err : goal.returns-in-Err
returns-in-Err c = inr (c.is_there.result, sym c.opening_of.ensures ∙ c.in-Err.is, refl)
