use Rattle.std.proofs.Common.{List, length, refl, ap, ◌∙◌}
use Rattle.ob_desk.specs.Desk.{Part, Holder, note_asked}
use Rattle.ob_desk.specs.Parts.{part_of}
use Rattle.ob_desk.proofs.Rooms.{length_edited}
use Rattle.ob_desk.proofs.part.ask.Goals as goal

pub returns-clause-part : goal.returns-clause-part
returns-clause-part c = ap (λ (hs : List Holder). let p : Part = record (part_of c.args.part.now) { holders = hs } in p) c.set_asked.ensures

pub returns-clause-room : goal.returns-clause-room
returns-clause-room c = record {
  params = refl;
  told = refl;
  holders = ap length c.set_asked.ensures ∙ length_edited note_asked c.args.part.now.holders.items c.args.t;
  going = λ h. h;
}
