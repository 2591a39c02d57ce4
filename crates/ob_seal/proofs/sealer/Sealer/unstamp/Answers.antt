use Rattle.std.proofs.Common.{◌≡◌, refl, sym, ap, ◌∙◌, subst}
use Rattle.ob_seal.specs.Seals.{tag_of, stamped}
use Rattle.ob_seal.specs.Sealing.{Sealing}
use Rattle.ob_seal.specs.Damage.{kept_tag, computed_tag}
use Rattle.ob_seal.proofs.Spelling.{stamped_parts, stamped_whole}
use Rattle.ob_seal.proofs.sealer.Sealer.unstamp.Goals as goal

pub returns-then-is_same-clause-spelled : goal.returns-then-is_same-clause-spelled
returns-then-is_same-clause-spelled c =
    let same = c.is_same.ensures.0 c.if-is_same.true in
    let right : kept_tag c.args.bytes.now ≡ computed_tag c.self.inside.keys c.args.cell c.args.bytes.now =
    sym c.part_at-kept.ensures ∙ same ∙ c.tag_of-computed.ensures ∙ ap (tag_of c.self.inside.keys.tag c.args.cell) c.part_at-plain.ensures in
    rw (← c.self.view_is, c.part_at-plain.ensures) (stamped_whole c.self.inside.keys c.args.cell c.args.bytes.now c.told-bytes right)

pub returns-then-is_same-clause-round_trip : goal.returns-then-is_same-clause-round_trip
returns-then-is_same-clause-round_trip c = λ plain long e.
    let parts = stamped_parts c.args.self.now.keys c.args.cell c.args.bytes.now plain long e in
    rw (c.part_at-plain.ensures ∙ parts.0) refl

pub returns-clause-round_trip : goal.returns-clause-round_trip
returns-clause-round_trip c = λ plain long e.
    let parts = stamped_parts c.self.inside.keys c.args.cell c.args.bytes.now plain long (subst (λ (s : Sealing). c.args.bytes.now ≡ stamped s.keys c.args.cell plain) (sym c.self.view_is) e) in
    let same = c.part_at-kept.ensures ∙ parts.1 ∙ sym (c.tag_of-computed.ensures ∙ ap (tag_of c.self.inside.keys.tag c.args.cell) c.part_at-plain.ensures) in
    let told = c.is_same.ensures.1 same in
    cc (told, c.if-is_same.false)
