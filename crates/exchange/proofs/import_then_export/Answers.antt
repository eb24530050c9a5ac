-- `exchange::import_then_export` meets its contract, by the laws about export behind import, and about the pairs of the sheet that import gives. Assumes nothing.
use Rattle.sections.specs.Afm.{import_call, export_call}
use Rattle.sections.proofs.RoundTrips.{import_export, kept_pairs, kept_section}
use Rattle.demands.proofs.Following.{gives_held}
use Rattle.exchange.proofs.Exchanging.{blank_is, made, first_gave, second_gave}
use Rattle.exchange.proofs.import_then_export.Goals as goal

pub export_of-second-requires : goal.export_of-second-requires
export_of-second-requires c = gives_held c.import-first.ensures

pub returns : goal.returns
returns c =
    let calls = made (import_call c.args.section.now) (λ n t. export_call t n) (blank_is c.filled-given.ensures) (blank_is c.filled-again.ensures) c.import-first.ensures c.export_of-second.ensures in record { made = calls; kept = record { same_section = λ s. second_gave calls s _ (import_export _ s); same_pairs = λ s read gave is. (kept_pairs _ s 65535 read (first_gave calls s gave) is, kept_section _ s 65535 read (first_gave calls s gave) is) } }
