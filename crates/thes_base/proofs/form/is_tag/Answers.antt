use Rattle.std.proofs.Common.{rules, lit<, arith}
use Rattle.std.proofs.lemmas.Str.Pattern.{split_once_first}
use Rattle.std.specs.Char.{IsAsciiAlphabetic}
use Rattle.thes_base.specs.Forms.{IsTagPart}
use Rattle.thes_base.proofs.TagLemmas.{whole_tag, cut_tag}
use Rattle.thes_base.proofs.form.is_tag.Goals as goal

pub returns-in-None : goal.returns-in-None
returns-in-None c =
    let none = rw c.in-None.is at (split_once_first 45 c.args.text.now c.split_once.result c.split_once.ensures.cases
    (lit< tt)) in
    let (to, from) = whole_tag c.args.text.now (omega arith) none in
    (λ yes. from (c.is_part_of_letters.ensures.0 yes), λ tag. c.is_part_of_letters.ensures.1 (to tag))

pub returns-then-is_part_of_letters : goal.returns-then-is_part_of_letters
returns-then-is_part_of_letters c =
    let (found, front, back) =
    rw c.in-Some.is at (split_once_first 45 c.args.text.now c.split_once.result c.split_once.ensures.cases
    (lit< tt)) in
    let (to, from) = cut_tag c.args.text.now c.in-Some.first.now c.in-Some.rest.now (omega arith) found front back in
    let letters : IsTagPart IsAsciiAlphabetic c.in-Some.first.now = search rules in
    (λ yes. from (letters, c.are_parts.ensures.0 yes), λ tag. c.are_parts.ensures.1 (to tag).1)

pub returns-else-is_part_of_letters : goal.returns-else-is_part_of_letters
returns-else-is_part_of_letters c =
    let (found, front, back) =
    rw c.in-Some.is at (split_once_first 45 c.args.text.now c.split_once.result c.split_once.ensures.cases
    (lit< tt)) in
    let (to, from) = cut_tag c.args.text.now c.in-Some.first.now c.in-Some.rest.now (omega arith) found front back in
    (λ yes. absurd (search rules), λ tag. c.is_part_of_letters-in-Some.ensures.1 (to tag).0)
