use Rattle.std.specs.declared.marker.Brand.{Brand as BrandParts}
use Rattle.dy_cluster.specs.Settings.{setting}
use Rattle.dy_clients.proofs.Opening.{refused_ends}
use Rattle.dy_clients.proofs.staffing.run_opened.Goals as goal

-- the cluster is not opened
pub returns-in_err-opened : goal.returns-in_err-opened
returns-in_err-opened g c =
    let options = c.args.options in
    refused_ends c.args.ring options c.args.clients
    (g.C.Client.told (setting BrandParts c.args.ring options.n options.r options)
    c.args.client.now) c.in_err-opened.field-0.0 c.from_residual.result
    c.from_residual.ensures.1 c.in_err-opened.ensures.too_many c.in_err-opened.ensures.bad_quorum
    c.in_err-opened.ensures.only
