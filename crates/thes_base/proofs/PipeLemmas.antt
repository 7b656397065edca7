-- The effects of consecutive reads and writes on known bytes and on the counts of calls.
use Rattle.std.proofs.Common.{◌≡◌, ℕ, ◌+◌, ◌≤◌, List, ◌++◌, length, take, drop, Option, arith, ◌-◌, length-drop}
use Rattle.std.proofs.Common.{length-append}
use Rattle.std.proofs.KnownBytes.{Appends-trans}
use Rattle.std.proofs.Math.Seq.{take-add, take-append-add}
use Rattle.std.specs.Io.KnownBytes.{Appends}
use Rattle.std.proofs.lemmas.List.{take_rest}
use Rattle.thes_base.specs.Pipe.{AppendsPrefix, calls_of, calls_after, calls_limit, PaysCalls, KeepsSharedCallLimit}
use Rattle.thes_base.specs.declared.pipe.Pipe.{Pipe}

-- Writing the next n bytes after a prefix of a list writes a longer prefix.
pub appends_more : (a b c : Option (List ℕ)) (s : List ℕ) (i n : ℕ) → Appends a b (take i s)
    → Appends b c (take n (drop i s)) → Appends a c (take (i + n) s)
appends_more a b c s i n f g = rw (take-add i n s) (Appends-trans a b c (take i s) (take n (drop i s)) f g)

pub within_rest : (s : List ℕ) (i n : ℕ) → i ≤ length s → n ≤ length (take (length s - i) (drop i s)) → i + n ≤ length s
within_rest s i n h f = let k : length (drop i s) ≡ length s - i = length-drop i s in let g : n ≤ length (drop i s) =
    rw take_rest at f in omega (arith, k, g)

pub front_of_rest : (a b : Option (List ℕ)) (s : List ℕ) (i n : ℕ)
    → Appends a b (take n (take (length s - i) (drop i s))) → Appends a b (take n (drop i s))
front_of_rest a b s i n f = rw take_rest at f

-- Writing the first text and then a prefix of the second writes a prefix of both together.
pub appends_front_then : (a b c : Option (List ℕ)) (xs ys : List ℕ) → Appends a b xs → AppendsPrefix b c ys
    → AppendsPrefix a c (xs ++ ys)
appends_front_then a b c xs ys f s = record {
  count = length xs + s.count;
  within = let h = s.within in rw (length-append xs ys) (omega (arith, h));
  front = rw (take-append-add xs ys s.count) (Appends-trans a b c xs (take s.count ys) f s.front);
}

-- A call that uses a reader and a writer has `left` reads and writes left in its budget.
pub record HasLeft {R W : Type 0} (reader reader' : Pipe R) (writer writer' : Pipe W) (left : ℕ) : Type 0 where
  pub reads : ℕ
  pub writes : ℕ
  pub all : reads + writes + left ≡ calls_limit
  pub read : calls_of reader' ≡ calls_after (calls_of reader) reads
  pub wrote : calls_of writer' ≡ calls_after (calls_of writer) writes

pub counted_more : (calls m n : ℕ) → calls_after (calls_after calls m) n ≡ calls_after calls (m + n)
counted_more calls m n = omega arith

pub pays_then : {T : Type 0} {p q r : Pipe T} {a b c : ℕ} → PaysCalls p q a b → PaysCalls q r b c → PaysCalls p r a c
pays_then {p = p} {a = a} {b = b} {c = c} f g =
    let x = f.fell in let y = g.fell in let u = f.calls in let v = g.calls in
    let more = counted_more (calls_of p) (a - b) (b - c) in
    record { fell = omega (arith, x, y); calls = let e : a - b + (b - c) ≡ a - c = omega (arith, x, y) in cc }

pub all_left : {R W : Type 0} (reader : Pipe R) (writer : Pipe W) (left : ℕ) → left ≡ calls_limit
    → HasLeft reader reader writer writer left
all_left reader writer left e = record {
  reads = 0;
  writes = 0;
  all = omega (arith, e);
  read = omega arith;
  wrote =
      omega arith;
}

pub left_after_reads : {R W : Type 0} {r r' r'' : Pipe R} {w w' : Pipe W} {left left' : ℕ} → HasLeft r r' w w' left
    → PaysCalls r' r'' left left' → HasLeft r r'' w w' left'
left_after_reads {r = r} {left = left} {left' = left'} h p =
    let all = h.all in let fell = p.fell in let more = counted_more (calls_of r) h.reads (left - left') in record {
      reads = h.reads + (left - left');
      writes = h.writes;
      all = omega (arith, all, fell);
      read = let calls = p.calls in let read = h.read in cc;
      wrote = h.wrote;
    }

pub left_after_writes : {R W : Type 0} {r r' : Pipe R} {w w' w'' : Pipe W} {left left' : ℕ} → HasLeft r r' w w' left
    → PaysCalls w' w'' left left' → HasLeft r r' w w'' left'
left_after_writes {w = w} {left = left} {left' = left'} h p =
    let all = h.all in let fell = p.fell in let more = counted_more (calls_of w) h.writes (left - left') in record {
      reads = h.reads;
      writes = h.writes + (left - left');
      all = omega (arith, all, fell);
      read = h.read;
      wrote = let calls = p.calls in let wrote = h.wrote in cc;
    }

pub keeps_to_limit : {R W : Type 0} {r r' : Pipe R} {w w' : Pipe W} {left : ℕ} → HasLeft r r' w w' left
    → KeepsSharedCallLimit r r' w w'
keeps_to_limit {left = left} h = let all = h.all in record {
  reads = h.reads;
  writes = h.writes;
  within =
      omega (arith, all);
  read = h.read;
  wrote = h.wrote;
}
