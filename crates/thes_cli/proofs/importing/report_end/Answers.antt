use Rattle.std.proofs.Common.{Ok, refl, subst, sym}
use Rattle.thes_import.specs.declared.import.ImportEnd.{ImportEnd}
use Rattle.thes_cli.specs.Importing.{EndsImport}
use Rattle.thes_cli.proofs.importing.report_end.Goals as goal

pub returns-in-Malformed : goal.returns-in-Malformed
returns-in-Malformed g c =
    subst (λ (ended : ImportEnd). EndsImport g.E.Write.contents c.args.prints_it c.args.errors.now
    c.report_form_fault.new.errors (Ok ended) 1) (sym c.in-Malformed.is) (c.report_form_fault.ensures, refl)
