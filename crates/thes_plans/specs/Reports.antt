-- What a call reports of its changes of rows.
use Rattle.std.specs.Prelude.{◌≡◌, ◌⊎◌, List, [], Result, Ok, Err}
use Rattle.thes_base.specs.declared.fault.Fault.{Fault}
use Rattle.thes_tables.specs.declared.change.Change.{Change}

-- The report got these changes; it may have been left as it was if there are none.
abbrev pub GetsChanges : {R : Type 0} → (R → List Change → R → Type 0) → R → List Change → R → Type 0
GetsChanges adds old changes new = adds old changes new ⊎ ((changes ≡ []) × (new ≡ old))

-- The call did what `Does` says of the changes that the report got. After a fault nothing was done, and the report may
-- have got changes that weren't made.
abbrev pub IsReported : {R T : Type 0} → (R → List Change → R → Type 0) → R → Result T Fault → R
    → (List Change → Type 0) → Type 0
IsReported adds old (Ok done) new Does = (changes : List Change) × GetsChanges adds old changes new × Does changes
IsReported adds old (Err fault) new Does = ((changes : List Change) × GetsChanges adds old changes new) × Does []
