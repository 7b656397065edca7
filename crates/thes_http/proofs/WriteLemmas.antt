-- Proves that writes one after another, of which one may fail, append a prefix of their texts.
use Rattle.std.proofs.Common.{◌≡◌, refl, ℕ, List, ◌++◌, append_assoc, [], Option, Result, Ok, Err, OnErr, OnOk, arith}
use Rattle.std.proofs.Common.{length-append}
use Rattle.std.proofs.lemmas.List.{take-append-le}
use Rattle.std.specs.Io.KnownBytes.{Appends}
use Rattle.std.proofs.KnownBytes.{Appends-trans}
use Rattle.thes_base.specs.Pipe.{AppendsPrefix}
use Rattle.thes_base.proofs.PipeLemmas.{appends_front_then}

pub prefix_of_first : (a b : Option (List ℕ)) (xs ys : List ℕ) → AppendsPrefix a b xs → AppendsPrefix a b (xs ++ ys)
prefix_of_first a b xs ys f = record {
  count = f.count;
  within = let h = f.within in rw (length-append xs ys) (omega (arith, h));
  front = rw (take-append-le f.count xs ys f.within) f.front;
}

pub err_before : {A E : Type 0} (r : Result A E) (a b : Option (List ℕ)) (xs ys : List ℕ) → AppendsPrefix a b xs
    → OnErr r (AppendsPrefix a b (xs ++ ys))
err_before (Ok x) a b xs ys f = tt
err_before (Err e) a b xs ys f = prefix_of_first a b xs ys f

pub err_after : {A E : Type 0} (r : Result A E) (a b c : Option (List ℕ)) (xs ys : List ℕ) → Appends a b xs
    → OnErr r (AppendsPrefix b c ys) → OnErr r (AppendsPrefix a c (xs ++ ys))
err_after (Ok x) a b c xs ys f s = tt
err_after (Err e) a b c xs ys f s = appends_front_then a b c xs ys f s

pub err_between : {A E : Type 0} (r : Result A E) (a b c : Option (List ℕ)) (xs ys zs : List ℕ) → Appends a b xs
    → AppendsPrefix b c ys → OnErr r (AppendsPrefix a c (xs ++ (ys ++ zs)))
err_between (Ok x) a b c xs ys zs f s = tt
err_between (Err e) a b c xs ys zs f s = appends_front_then a b c xs (ys ++ zs) f (prefix_of_first b c ys zs s)

-- Three writes append their texts.
pub all_written : {A E : Type 0} (r : Result A E) (a b c d : Option (List ℕ)) (xs ys zs : List ℕ) → Appends a b xs
    → Appends b c ys → OnOk r (Appends c d zs) → OnOk r (Appends a d (xs ++ (ys ++ zs)))
all_written (Ok x) a b c d xs ys zs f s l = Appends-trans a b d xs (ys ++ zs) f (Appends-trans b c d ys zs s l)
all_written (Err e) a b c d xs ys zs f s l = tt

-- The parts of a head, appended one by one, are its lines.
pub head_parts : (first type media end length count close allow : List ℕ)
    → (((((([] ++ first) ++ type) ++ media) ++ (end ++ length)) ++ count) ++ ((end ++ close) ++ end)) ++ allow ++ end
    ≡ (first ++ (((type ++ media) ++ end) ++ ((length ++ count) ++ end) ++ (close ++ end)) ++ allow) ++ ([] ++ end)
head_parts first type media end length count close allow = simp append_assoc refl
