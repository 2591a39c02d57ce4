use Rattle.std.proofs.Common.{◌≡◌, true, false, is_some, sym, subst}
use Rattle.ob_serial.specs.Views.{record_of}
use Rattle.ob_desk.specs.Desk as desks
use Rattle.ob_desk.specs.Desk.{DeskState}
use Rattle.ob_desk.specs.Parts.{desk_of}
use Rattle.ob_desk.proofs.Ends.{publish_step}
use Rattle.ob_desk.proofs.desk.Desk.publish.Goals as goal

pub returns : goal.returns
returns c =
    let a = c.self.inside in
    subst (λ (d : DeskState). desks.PublishStep d (record_of c.publish.result) (desk_of a.shares c.settle.new.clients.items a.stopped a.running false c.publish.new.part)) c.self.view_is
    (publish_step a.shares a.clients.items a.stopped a.running a.other a.is_closed (record_of c.publish.result) c.settle.new.clients.items c.publish.new.part
    (subst (λ (d : DeskState). is_some d.closed ≡ true) (sym c.self.view_is) c.requires.3) c.publish.ensures.told c.settle.ensures)
