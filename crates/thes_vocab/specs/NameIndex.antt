-- The index of preferred labels: for each preferred label of a live concept, an entry that pairs a digest of the
-- scheme, the language and the text with the concept.
use Rattle.std.specs.Prelude.{◌≡◌, ◌<◌, ◌%◌, ◌^◌, ◌&&◌, ◌==◌, ℕ, List, Bool, true, Option, Some, fold, length}
use Rattle.std.specs.declared.cmp.Ordering.{Ordering}
use Rattle.std.specs.Ordering.{nat_cmp, ordering_then}
use Rattle.std.specs.BTreeSet.{contains}
use Rattle.std.specs.Hash as fed
use Rattle.std.specs.Hash.FoldHasher.{initial, write, finish}
use Rattle.thes_base.specs.declared.data.Resource.{Resource}
use Rattle.thes_base.specs.declared.data.LabelKind.TheVariants.{Pref}
use Rattle.thes_base.specs.Data.{LabelData}
use Rattle.thes_base.specs.Labels.{Labels, label_kind_no, UniquePreferred}
use Rattle.thes_vocab.specs.Vocabulary.{IsHolder}
use Rattle.thes_vocab.specs.OwnLabels.{HasOwnPreferred}
use Rattle.thes_vocab.specs.declared.names.Names.{Names}

-- The 32-bit digest of a preferred label in a scheme. Different labels may have the same digest.
unfoldable pub name_digest : ℕ → List ℕ → List ℕ → ℕ
name_digest scheme tag text = finish (write (write (fold write initial (fed.u32 scheme)) tag) text) % 2 ^ 32

-- The order of entries by digest, then by concept.
abbrev pub entry_cmp : ℕ × ℕ → ℕ × ℕ → Ordering
entry_cmp x y = ordering_then (nat_cmp x.0 y.0) (nat_cmp x.1 y.1)

-- The index has an entry for the concept with the preferred label in the scheme.
abbrev pub HasNameEntry : Names → ℕ → List ℕ → List ℕ → ℕ → Type 0
HasNameEntry names scheme tag text n = contains entry_cmp names.entries (name_digest scheme tag text, n) ≡ true

-- The new index has all entries of the old one.
abbrev pub KeepsNames : Names → Names → Type 0
KeepsNames old new =
    (scheme n : ℕ) (tag text : List ℕ) → HasNameEntry old scheme tag text n → HasNameEntry new scheme tag text n

-- The index has an entry for the concept with the preferred label in its scheme, if there is a scheme.
abbrev pub HasEntryInScheme : Names → Option ℕ → List ℕ → List ℕ → ℕ → Type 0
HasEntryInScheme names in_scheme tag text n =
    (scheme : ℕ) → in_scheme ≡ Some scheme → HasNameEntry names scheme tag text n

-- The index has an entry for the concept with the label in its scheme, if the label is preferred and there is a scheme.
abbrev pub HasLabelEntry : Names → Option ℕ → LabelData → ℕ → Type 0
HasLabelEntry names in_scheme l n = l.kind ≡ Pref → HasEntryInScheme names in_scheme l.tag l.text n

-- The new index keeps the old entries of all other concepts, and of this concept those for the preferred labels in the
-- list `own`, in its scheme.
abbrev pub KeepsOtherNames : Names → Names → Option ℕ → ℕ → List LabelData → Type 0
KeepsOtherNames old new in_scheme concept own =
    (scheme n : ℕ) (tag text : List ℕ) → (n ≡ concept → (in_scheme ≡ Some scheme) × HasOwnPreferred own tag text)
    → HasNameEntry old scheme tag text n → HasNameEntry new scheme tag text n

-- Whether the label is preferred and has this digest in the scheme.
abbrev pub has_digest : ℕ → ℕ → LabelData → Bool
has_digest scheme digest l = label_kind_no l.kind == 1 && name_digest scheme l.tag l.text == digest

-- The index has an entry for each preferred label of a live concept.
abbrev pub AreHoldersIndexed : List Resource → Labels → Names → Type 0
AreHoldersIndexed resources labels names =
    (scheme n : ℕ) (tag text : List ℕ) → IsHolder resources labels scheme tag text n
    → HasNameEntry names scheme tag text n

-- The index leads to the one live concept of a scheme that has a preferred label: there are fewer than 2 ^ 32
-- resources, each such concept has an entry, and no two of a scheme have the same label.
pub record LeadsToHolders (resources : List Resource) (labels : Labels) (names : Names) : Type 0 where
  pub few : length resources < 2 ^ 32
  pub entries : AreHoldersIndexed resources labels names
  pub unique : UniquePreferred resources labels
