-- The source of all entries of an alphabetical display: a core, a language, and an index of headings.
use Rattle.std.specs.Prelude.{◌≡◌, ℕ, List, [], false}
use Rattle.thes_core.specs.CoreView.{with_histories}
use Rattle.thes_display.specs.Alphabetical.{AreLinesOf}
use Rattle.thes_display.specs.HeadingIndex.{IsHeadingIndex}
use Rattle.thes_display.specs.declared.entry.EntrySource.{EntrySource}
use Rattle.thes_display.specs.declared.symbol.Symbol.{Symbol}

-- The core is usable, and the index has the headings of its state in the language.
pub record IsEntrySource (source : EntrySource) : Type 0 where
  pub unspent : source.core.now.spent ≡ false
  pub index : IsHeadingIndex (with_histories [] source.core.now) source.tag.now source.index.now

-- The text consists of the lines of one symbol in the entry of concept `n`, in the source's state and language.
abbrev pub AreSourceLines : EntrySource → ℕ → Symbol → List ℕ → Type 0
AreSourceLines source n symbol = AreLinesOf (with_histories [] source.core.now) source.tag.now n symbol
