-- Typed rows, and whole tables, are determined by their cells.
use Rattle.std.proofs.lemmas.Grind.{common_steps}
use Rattle.std.proofs.Common.{arith, ◌≡◌, ℕ, List, [], ◌∷◌, ◌+◌, map, Bool, Option, refl, sym, ap}
use Rattle.std.proofs.Common.{◌∙◌, if◌then◌else◌, ◌==◌}
use Rattle.std.proofs.lemmas.Option.{same_Some}
use Rattle.thes_base.specs.declared.data.Resource.{Resource}
use Rattle.thes_base.specs.declared.data.ResourceKind.{ResourceKind}
use Rattle.thes_base.specs.declared.data.ResourceKind.TheVariants as rk
use Rattle.thes_base.specs.declared.data.Link.{Link}
use Rattle.thes_base.specs.Labels.{Label}
use Rattle.thes_tables.specs.declared.cells.Cell.{Cell}
use Rattle.thes_tables.specs.declared.cells.Cell.TheVariants.{Text}
use Rattle.thes_tables.specs.declared.rows.HierRow.{HierRow}
use Rattle.thes_tables.specs.declared.rows.HierType.{HierType}
use Rattle.thes_tables.specs.declared.rows.HierType.TheVariants as ht
use Rattle.thes_tables.specs.declared.rows.PostingRow.{PostingRow}
use Rattle.thes_tables.specs.declared.rows.MoveRow.{MoveRow}
use Rattle.thes_tables.specs.Tables.{Tables}
use Rattle.thes_tables.specs.Cells.{number_cell, flag_cell, optional_cell, resource_kind_no, resource_cells}
use Rattle.thes_tables.specs.Cells.{resource_rows, outside_cells, label_cells, link_cells, hier_type_no, hier_cells}
use Rattle.thes_tables.specs.Cells.{posting_cells, move_cells, cells_of_tables}

pub head_one : {A : Type 0} {x y : A} {xs ys : List A} → x ∷ xs ≡ y ∷ ys → x ≡ y
head_one e = cc

pub tail_one : {A : Type 0} {x y : A} {xs ys : List A} → x ∷ xs ≡ y ∷ ys → xs ≡ ys
tail_one e = cc

pub map_one : {A B : Type 0} (f : A → B) → ((x y : A) → f x ≡ f y → x ≡ y) → (xs ys : List A) → map f xs ≡ map f ys
    → xs ≡ ys
map_one f one [] [] e = refl
map_one f one [] (y ∷ ys) e = absurd (cc)
map_one f one (x ∷ xs) [] e = absurd (cc)
map_one f one (x ∷ xs) (y ∷ ys) e = λ i. one x y (head_one e) i ∷ map_one f one xs ys (tail_one e) i

pub number_one : {m n : ℕ} → number_cell m ≡ number_cell n → m ≡ n
number_one e = cc

pub text_one : {x y : List ℕ} → ◌≡◌ {A = Cell} (Text x) (Text y) → x ≡ y
text_one e = cc

flag_one : (a b : Bool) → flag_cell a ≡ flag_cell b → a ≡ b
flag_one a b e = grind (arith, common_steps)

optional_one : (a b : Option ℕ) → optional_cell a ≡ optional_cell b → a ≡ b
optional_one a b e = grind (arith, common_steps, number_one)

resource_kind : ℕ → ResourceKind
resource_kind n = if n == 1 then rk.Scheme else if n == 2 then rk.Concept else if n == 3 then rk.Collection else
    rk.Outside

resource_kind_is : (k : ResourceKind) → resource_kind (resource_kind_no k) ≡ k
unfolding resource_kind
resource_kind_is k = grind (arith, common_steps)

resource_one : (m n : ℕ) (r q : Resource) → resource_cells m r ≡ resource_cells n q → r ≡ q
resource_one m n r q e =
    let kind = sym (resource_kind_is r.kind) ∙ ap resource_kind (number_one (head_one (tail_one e)))
    ∙ resource_kind_is q.kind in
    let scheme = optional_one r.scheme q.scheme (head_one (tail_one (tail_one e))) in
    let live = flag_one r.live q.live (head_one (tail_one (tail_one (tail_one e)))) in
    let replaced = optional_one r.replaced q.replaced (head_one (tail_one (tail_one (tail_one (tail_one e))))) in
    λ i. record { kind = kind i; scheme = scheme i; live = live i; replaced = replaced i }

pub resources_one : (m n : ℕ) (rs qs : List Resource) → resource_rows m rs ≡ resource_rows n qs → rs ≡ qs
resources_one m n [] [] e = refl
resources_one m n [] (q ∷ qs) e = absurd (cc)
resources_one m n (r ∷ rs) [] e = absurd (cc)
resources_one m n (r ∷ rs) (q ∷ qs) e = λ i. resource_one m n r q (head_one e) i ∷ resources_one (m + 1) (n + 1) rs qs
    (tail_one e) i

pub outside_one : (x y : ℕ × List ℕ) → outside_cells x ≡ outside_cells y → x ≡ y
outside_one x y e = λ i. (number_one (head_one e) i, text_one (head_one (tail_one e)) i)

pub label_one : (x y : Label) → label_cells x ≡ label_cells y → x ≡ y
label_one x y e = grind (arith, common_steps, number_one, head_one, tail_one, text_one)

pub link_one : (x y : Link) → link_cells x ≡ link_cells y → x ≡ y
link_one x y e = grind (arith, common_steps, number_one, head_one, tail_one)

hier_typ : ℕ → HierType
hier_typ n = if n == 0 then ht.Untyped else if n == 1 then ht.Generic else if n == 2 then ht.Partitive else
    ht.Instantial

hier_typ_is : (typ : HierType) → hier_typ (hier_type_no typ) ≡ typ
unfolding hier_typ
hier_typ_is typ = grind (arith, common_steps)

pub hier_one : (x y : HierRow) → hier_cells x ≡ hier_cells y → x ≡ y
hier_one x y e = grind (arith, common_steps, number_one, head_one, tail_one, hier_typ_is, hier_typ)

pub posting_one : (x y : PostingRow) → posting_cells x ≡ posting_cells y → x ≡ y
posting_one x y e = grind (arith, common_steps, number_one, head_one, text_one, tail_one, flag_one)

pub move_one : (x y : MoveRow) → move_cells x ≡ move_cells y → x ≡ y
move_one x y e = grind (arith, common_steps, number_one, head_one, tail_one)

-- Tables are determined by their rows of cells.
pub listed_one : (t u : Tables) → cells_of_tables t ≡ cells_of_tables u → t ≡ u
listed_one t u e = grind (
  arith,
  common_steps,
  text_one,
  head_one,
  tail_one,
  resources_one,
  map_one,
  outside_one,
  label_one,
  link_one,
  hier_one,
  posting_one,
  move_one,
  same_Some,
)
