-- `reporting::sheet_of` meets its contract. Assumes nothing.
use Rattle.std.proofs.Common.{sym}
use Rattle.channels.proofs.ChannelLaws.{crate_divided}
use Rattle.reporting.proofs.ReportLaws.{sheet_made}
use Rattle.reporting.proofs.sheet_of.Goals as goal

pub survey-requires : goal.survey-requires
survey-requires c = (c.in_ok-c.ensures.bounded, crate_divided _ _ _ (sym c.in_ok-check.ensures))

pub returns : goal.returns
returns c = sheet_made _ _ _ _ _ (sym c.in_ok-check.ensures) c.in_ok-c.ensures (sym c.in_ok-check_room.ensures) c.survey.ensures
