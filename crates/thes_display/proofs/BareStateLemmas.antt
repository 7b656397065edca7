-- Proves that the alphabetical display of a state doesn't depend on its posting histories.
use Rattle.std.proofs.lemmas.Grind.{common_steps}
use Rattle.std.proofs.Common.{◌≡◌, refl, subst, ℕ, List, [], ◌∷◌, Bool, true, false, arith}
use Rattle.thes_base.specs.declared.data.History.{History}
use Rattle.thes_base.specs.State.{State}
use Rattle.thes_core.specs.CoreView.{CoreView, IsViewOf, with_histories}
use Rattle.thes_display.specs.declared.symbol.Symbol.{Symbol}
use Rattle.thes_display.specs.Alphabetical.{AreLinesOf, AreTexts, IsAlphabetical, IsEntryOf, IsHeadedBy}
use Rattle.thes_display.specs.Alphabetical.{IsUnder, symbols}
use Rattle.thes_display.specs.Order.{Term}

texts_as : {A : Type 0} (P Q : A → List ℕ → Type 0) → ((x : A) (text : List ℕ) → P x text → Q x text)
    → (xs : List A) (text : List ℕ) → AreTexts P xs text → AreTexts Q xs text
texts_as P Q f [] text is = is
texts_as P Q f (x ∷ xs) text (first, rank_is, (rest, are, is)) =
    (first, f x first rank_is, (rest, texts_as P Q f xs rest are, is))

module _ (k : CoreView) (hs : List History) (tag : List ℕ) where
  abbrev Bare : State
  Bare = with_histories [] k

  abbrev Whole : State
  Whole = with_histories hs k

  same_under : (n : ℕ) (symbol : Symbol) → IsUnder Bare tag n symbol ≡ IsUnder Whole tag n symbol
  same_under n symbol = grind (arith, common_steps)

  lines_as : (n : ℕ) (symbol : Symbol) (text : List ℕ) → AreLinesOf Bare tag n symbol text → AreLinesOf Whole tag n
      symbol text
  lines_as n symbol text l = grind (arith, common_steps, same_under)

  entry_of : (lead_in : Bool) (t : Term) (text : List ℕ) → IsEntryOf Bare tag lead_in t text
      → IsEntryOf Whole tag lead_in t text
  entry_of false t text (below, lines, is) = (
    below,
    texts_as (AreLinesOf Bare tag t.concept) (AreLinesOf Whole tag t.concept) (lines_as t.concept) symbols
        below lines,
    is,
  )
  entry_of true t text is = is

  same_head : (lead_in : Bool) (t : Term) → IsHeadedBy Bare tag lead_in t ≡ IsHeadedBy Whole tag lead_in t
  same_head false t = refl
  same_head true t = refl

  whole_display : (scheme : ℕ) (text : List ℕ) → IsAlphabetical Bare scheme tag text → IsAlphabetical Whole scheme tag
      text
  whole_display scheme text a = grind (arith, common_steps, entry_of, same_head, texts_as)

pub alphabetical_held : (k : CoreView) (s : State) → IsViewOf k s → (scheme : ℕ) (tag text : List ℕ)
    → IsAlphabetical (with_histories [] k) scheme tag text → IsAlphabetical s scheme tag text
alphabetical_held k s holds scheme tag text a = subst (λ (t : State). IsAlphabetical t scheme tag text) holds.state
    (whole_display k s.histories tag scheme text a)
