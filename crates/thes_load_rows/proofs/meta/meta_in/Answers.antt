use Rattle.std.proofs.Common.{◌≡◌, ◌≢◌, ◌∙◌, ℕ, ℤ, pos, ◌≤ℤ◌, inl, inr, refl, sym, ap, subst, arith, rules, get_or}
use Rattle.std.specs.Prelude.{Option, List, false}
use Rattle.std.proofs.lemmas.Int.{ints}
use Rattle.thes_base.specs.Forms.{IsBase, HasStoredForm}
use Rattle.thes_tables.specs.declared.cells.Cell.{Cell}
use Rattle.thes_tables.specs.declared.cells.Cell.TheVariants.{Int, Text}
use Rattle.thes_load_rows.specs.CellSpelling.{Spells}
use Rattle.thes_load_rows.proofs.meta.meta_in.Goals as goal

int_one : {x y : ℤ} → ◌≡◌ {A = Cell} (Int x) (Int y) → x ≡ y
int_one e = cc

pub returns-in-None : goal.returns-in-None
returns-in-None c = (
  λ version base why e.
      let item = c.version-item.is ∙ ap (λ (l : List Cell). get_or l 1 c.version-item.result) e in
      let same : c.in-Int-Int.version ≡ pos version = int_one (sym c.in-Int-Int.is-1 ∙ item) in
      let most : c.in-Int-Int.version ≤ℤ pos 2 = search rules in
      let apart : c.in-Int-Int.version ≢ pos 1 = search rules in
      elim why [
        | inl newer ↦ omega (arith, ints, newer, subst (λ v. v ≤ℤ pos 2) same most)
        | inr older ↦ apart (same ∙ ap pos older)
      ],
  λ base form e.
      let none : (x : List ℕ) → HasStoredForm IsBase false x → c.base-item.result ≡ Text x → ⊥ =
      subst (λ (o : Option (List ℕ)). Spells Text (HasStoredForm IsBase false) c.base-item.result o) c.in-None.is
      c.in_ok-base.ensures in
      none base (record { form = form; stays = refl })
      (c.base-item.is ∙ ap (λ (l : List Cell). get_or l 2 c.base-item.result) e),
)
