-- `load_connected` meets its contract: 16 where the figure is in separate parts, and the figure where it is not. Assumes nothing.
use Rattle.std.proofs.Common.{sym, ◌∙◌}
use Rattle.figure.proofs.Verdict.{in_parts, in_one_part}
use Rattle.figure.proofs.checked.load_connected.Goals as goal

pub returns-then-not-connected : goal.returns-then-not-connected
returns-then-not-connected c = record { answers = in_parts _ c.load_figure-figure.ensures.accepted (sym (c.connected.ensures _ c.load_figure-figure.ensures.holds.lined) ∙ c.if-not-connected.true); holds = tt }

pub returns : goal.returns
returns c = record { answers = in_one_part _ c.load_figure-figure.ensures.accepted (sym (c.connected.ensures _ c.load_figure-figure.ensures.holds.lined) ∙ c.if-not-connected.false); holds = c.load_figure-figure.ensures.holds }
