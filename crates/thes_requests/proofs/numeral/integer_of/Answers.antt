use Rattle.std.proofs.Common.{◌≡◌, ◌+◌, ◌%◌, get_or, arith, rules}
use Rattle.std.proofs.lemmas.Str.Parse.{digit_at}
use Rattle.thes_requests.proofs.NumeralLemmas.{one_more}
use Rattle.thes_requests.proofs.numeral.integer_of.Goals as goal

pub returns-then-digit-gt9 : goal.returns-then-digit-gt9
returns-then-digit-gt9 c =
    let i = c.loop-byte.byte-index in
    λ few. omega (arith, digit_at c.args.bytes.now i few.0.1 c.loop-byte-test.true, c.if-digit-gt9.true)

pub overflow_mul-number : goal.overflow_mul-number
overflow_mul-number c =
    let before = c.loop-byte.invariant in
    let digit = (get_or c.args.bytes.now c.loop-byte.byte-index 0 + 208) % 256 in
    let same : digit ≡ digit = λ _. digit in
    let byte = c.type_inv.byte.fits in
    omega (
      arith,
      one_more _ _ _ digit c.loop-byte-test.true c.if-bytes-gt19.false before byte same c.if-digit-gt9.false,
    )

pub overflow_add-number : goal.overflow_add-number
overflow_add-number c =
    let before = c.loop-byte.invariant in
    let bs = c.args.bytes.now in
    let digit = c.from.result in
    let inside = c.loop-byte-test.true in
    let short = c.if-bytes-gt19.false in
    omega (arith, one_more bs _ _ digit inside short before (search rules) (search rules) (search rules))

pub loop-byte-preserved : goal.loop-byte-preserved
loop-byte-preserved c =
    let before = c.loop-byte.invariant in
    let bs = c.args.bytes.now in
    let digit = c.from.result in
    let inside = c.loop-byte-test.true in
    let short = c.if-bytes-gt19.false in
    let next = one_more bs _ _ digit inside short before (search rules) (search rules) (search rules) in
    (next.0, next.1)
