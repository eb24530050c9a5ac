-- `exchange::export_then_import` meets its contract, by the law about import behind export. Assumes nothing.
use Rattle.sections.specs.Afm.{import_call, export_call}
use Rattle.sections.proofs.RoundTrips.{export_import}
use Rattle.demands.proofs.Following.{gives_held}
use Rattle.exchange.proofs.Exchanging.{blank_is, made, second_gave}
use Rattle.exchange.proofs.export_then_import.Goals as goal

pub import_of-second-requires : goal.import_of-second-requires
import_of-second-requires c = gives_held c.export-first.ensures

pub returns : goal.returns
returns c =
    let calls = made (export_call c.args.sheet.now) (λ n t. import_call t n) (blank_is c.filled-given.ensures) (blank_is c.filled-again.ensures) c.export-first.ensures c.import_of-second.ensures in record { made = calls; same_sheet = record { same_sheet = λ x. second_gave calls x _ (export_import _ x) } }
