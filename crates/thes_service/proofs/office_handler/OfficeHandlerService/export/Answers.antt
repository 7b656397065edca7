use Rattle.std.proofs.Common.{sym}
use Rattle.thes_export.proofs.ExportLemmas.{export_read}
use Rattle.thes_service.specs.Service.{IsExportRead}
use Rattle.thes_service.proofs.StateViewLemmas.{result_ready}
use Rattle.thes_service.proofs.office_handler.OfficeHandlerService.export.Goals as goal

pub returns : goal.returns
returns g c =
    rw (sym c.self.view_is, c.new.ensures) (result_ready g.K.Keeper.view IsExportRead c.self.inside.office
    c.ready.follows.lender-at-none c.ready.result c.in_ok-core.core c.in_ok-triples.triples.items
    c.ready.follows.holds-at-none c.in_ok-core.was
    (λ s holds legal. let export = c.in_ok-triples.ensures s holds in
    (export, export_read c.in_ok-core.core.now.setting.base s legal c.in_ok-triples.triples.items export)))
