use Rattle.std.proofs.Common.{◌≡◌, ◌∙◌, List, [], map, refl, rules, subst, sym, ap, arith, length}
use Rattle.std.proofs.lemmas.List.{length-map}
use Rattle.thes_base.specs.declared.fault.Fault.TheVariants.{OutOfMemory}
use Rattle.thes_base.specs.declared.request.Answer.{Answer}
use Rattle.thes_office.specs.Office.{RunResult}
use Rattle.thes_posting_files.specs.Outcomes.{fault_of_row, outcomes_of, posts_of, row_count}
use Rattle.thes_posting_files.proofs.ReportLemmas.{adds_same}
use Rattle.thes_import.proofs.BlockLemmas.{block_fits, block_result, block_unread, rows_reported}
use Rattle.thes_import.proofs.perform.import_block.Goals as goal

pub returns-clause-imports : goal.returns-clause-imports
returns-clause-imports g c =
    let read = c.in_ok-read_block.ensures in
    let rows = read.rows in
    let posts : c.as_slice.result.now ≡ posts_of rows = c.as_slice.ensures.value ∙ read.posts in
    let faults : c.as_slice-2.result.now ≡ map fault_of_row rows = c.as_slice-2.ensures.value ∙ read.faults in
    let answers : c.as_slice-3.result.now ≡ c.run-ran.new.answers.items = search rules in
    let before : c.new-answers.result.items ≡ [] = search rules in
    block_result g.K.Keeper.view c.args.office.now c.run-ran.new.self c.args.reader.now
    c.read_block.new.reader c.args.report.now c.push_outcomes.new.self rows c.run-ran.result
    read.reads (read.some c.requires.some) read.few
    (rows_reported g.K.Keeper.view c.args.office.now c.run-ran.new.self rows
    c.as_slice.result.now c.as_slice-2.result.now c.as_slice-3.result.now c.run-ran.result
    c.args.report.now c.push_outcomes.new.self posts faults
    (subst (λ (l : List Answer). RunResult g.K.Keeper.view c.args.office.now
    c.as_slice.result.now [] l c.run-ran.result c.run-ran.new.self) (sym answers)
    (subst (λ (l : List Answer). RunResult g.K.Keeper.view c.args.office.now
    c.as_slice.result.now l c.run-ran.new.answers.items c.run-ran.result c.run-ran.new.self)
    before c.run-ran.ensures.ran))
    (adds_same (outcomes_of c.as_slice-2.result.now c.as_slice-3.result.now) c.args.report.now
    c.make_room.new.self c.push_outcomes.new.self c.make_room.ensures.text c.make_room.ensures.counts
    c.push_outcomes.ensures))

pub returns-in_err-read_block-clause-imports : goal.returns-in_err-read_block-clause-imports
returns-in_err-read_block-clause-imports g c =
    block_unread g.K.Keeper.view c.args.office.now c.args.reader.now c.read_block.new.reader c.args.report.now
    c.args.report.now c.from_residual.result OutOfMemory (search rules) c.is_stale.ensures.shows c.requires.some refl
    refl

pub returns-in_err-make_room-clause-imports : goal.returns-in_err-make_room-clause-imports
returns-in_err-make_room-clause-imports g c =
    block_unread g.K.Keeper.view c.args.office.now c.args.reader.now c.read_block.new.reader c.args.report.now
    c.make_room.new.self c.from_residual-in_err-make_room.result OutOfMemory (search rules) c.is_stale.ensures.shows
    c.requires.some c.make_room.ensures.text c.make_room.ensures.counts

pub push_outcomes-requires-clause-fits : goal.push_outcomes-requires-clause-fits
push_outcomes-requires-clause-fits g c =
    let read = c.in_ok-read_block.ensures in
    let rows = read.rows in
    let faults : c.as_slice-2.result.now ≡ map fault_of_row rows = c.as_slice-2.ensures.value ∙ read.faults in
    let as_many = length-map rows fault_of_row in
    let size = ap (λ (l : List _). length l) faults in
    let fits = block_fits c.args.reader.now c.read_block.new.reader c.args.report.now.counts rows c.requires.counts
    read.reads in
    let same = ap row_count c.make_room.ensures.counts in
    omega (arith, as_many, size, fits, same)
