-- Proves the effect of printing two texts in sequence.
use Rattle.std.proofs.lemmas.Grind.{common_steps}
use Rattle.std.proofs.Common.{ℕ, List, ◌++◌, Bool, true, false, Option, arith}
use Rattle.std.proofs.KnownBytes.{Appends-trans}
use Rattle.thes_base.specs.Pipe.{AppendsPrefix}
use Rattle.thes_base.specs.declared.pipe.Pipe.{Pipe}
use Rattle.thes_base.proofs.PipeLemmas.{appends_front_then}
use Rattle.thes_command_line.specs.Printing.{HasPrinted, Prints}

prefix_of_first : (a b : Option (List ℕ)) (xs ys : List ℕ) → AppendsPrefix a b xs → AppendsPrefix a b (xs ++ ys)
prefix_of_first a b xs ys f = grind (arith, common_steps)

module _ {W : Type 0} (contents : W → Option (List ℕ)) where
  -- Whether or not printing a text succeeded, the text or a prefix of it was printed.
  pub either : (old new : Pipe W) (text : List ℕ) (done : Bool) → HasPrinted contents old new text done
      → Prints contents old new text
  either old new text done h = grind (arith, common_steps)

  -- If the first text wasn't written, the two texts together weren't.
  pub cut_short : (old new : Pipe W) (first second : List ℕ) → HasPrinted contents old new first false
      → HasPrinted contents old new (first ++ second) false
  cut_short old new first second h = grind (arith, common_steps, prefix_of_first)

  -- The second text, or a prefix of it, follows the first.
  pub both : (old mid new : Pipe W) (first second : List ℕ) (done : Bool) → HasPrinted contents old mid first true
      → HasPrinted contents mid new second done → HasPrinted contents old new (first ++ second) done
  both old mid new first second done h k = grind (arith, common_steps, Appends-trans, appends_front_then)
