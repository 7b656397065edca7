use Rattle.std.proofs.Common.{◌≡◌, subst, refl}
use Rattle.std.specs.Prelude.{Option, List, ℕ, false}
use Rattle.thes_base.specs.Forms.{IsIri, HasStoredForm}
use Rattle.thes_tables.specs.declared.cells.Cell.TheVariants.{Text}
use Rattle.thes_load_rows.specs.CellSpelling.{Spells}
use Rattle.thes_load_rows.proofs.rows.outside_in.Goals as goal

pub returns-in-None : goal.returns-in-None
returns-in-None c = λ row form e.
    let none : (x : List ℕ) → HasStoredForm IsIri false x → c.iri-item.result ≡ Text x → ⊥ =
    subst (λ (o : Option (List ℕ)). Spells Text (HasStoredForm IsIri false) c.iri-item.result o) c.in-None.is
    (c.in_ok-iri.ensures) in
    let a = c.iri-item.is in
    none row.1 (record { form = form.1; stays = refl }) (cc)
