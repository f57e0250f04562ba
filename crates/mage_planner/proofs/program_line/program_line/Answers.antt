use Rattle.std.proofs.Common.{refl}
use Rattle.mage_planner.proofs.program_line.program_line.Goals as goal

pub returns-in-Magic : goal.returns-in-Magic
returns-in-Magic c = rw c.in-Magic.is refl

pub returns-in-Version : goal.returns-in-Version
returns-in-Version c = rw c.in-Version.is refl

pub returns-in-Short : goal.returns-in-Short
returns-in-Short c = rw c.in-Short.is (c.owned.ensures _ c.short_line.ensures)

pub returns-in-Field : goal.returns-in-Field
returns-in-Field c = rw c.in-Field.is (c.owned-in-Field.ensures _ c.field_line.ensures)

pub returns-in-Extra : goal.returns-in-Extra
returns-in-Extra c = rw c.in-Extra.is (c.owned-in-Extra.ensures _ c.extra_line.ensures)

pub returns-in-Range : goal.returns-in-Range
returns-in-Range c = rw c.in-Range.is (c.owned-in-Range.ensures _ c.range_line.ensures)

pub returns-in-SlotState : goal.returns-in-SlotState
returns-in-SlotState c = rw c.in-SlotState.is (c.owned-in-SlotState.ensures _ c.slot_line.ensures)

pub returns-in-PageState : goal.returns-in-PageState
returns-in-PageState c = rw c.in-PageState.is (c.owned-in-PageState.ensures _ c.page_line.ensures)

pub returns-in-Width : goal.returns-in-Width
returns-in-Width c = rw c.in-Width.is (c.owned-in-Width.ensures _ c.width_line.ensures)

pub returns-in-Links : goal.returns-in-Links
returns-in-Links c = rw c.in-Links.is (c.owned-in-Links.ensures _ c.links_line.ensures)
