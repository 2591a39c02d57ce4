use Rattle.std.proofs.Common.{◌≡◌, ◌+◌, ◌*◌, ℕ, List, Bool, Option, length, refl, ap, ◌∙◌, sym}
use Rattle.std.specs.List.{flat_map}
use Rattle.ob_base.specs.LittleEndian.{with_part}
use Rattle.ob_tables.specs.Version.{Version, key_bytes, index_bytes, version_bytes, version_len}
use Rattle.ob_tables.proofs.PartLaws.{encoded}
use Rattle.ob_tables.proofs.meta.Meta.encode.Goals as goal

pub returns : goal.returns
returns c =
    let v : Version = record { home = c.self.inside.home; generation = c.self.inside.generation; base = c.self.inside.base; keys = c.self.inside.keys.items; ranks = c.self.inside.ranks.items; used = c.self.inside.used.items } in
    let is : v ≡ c.args.self.now = c.self.view_is in
    let long : length c.args.out.now ≡ version_len v = c.requires ∙ ap version_len (sym is) in
    encoded c.args.out.now v _ c.set_u64.new.bytes c.set_u64-2.new.bytes c.write_keys.new.out c.write_indexes.new.out (length c.as_slice-keys.result.now) long c.self.invariant.used (ap length c.as_slice-keys.ensures.value)
    refl c.set_u64.ensures c.set_u64-2.ensures
    (c.write_keys.ensures ∙ ap (λ (xs : List (Option ℕ)). with_part c.set_u64-2.new.bytes 17 (flat_map key_bytes xs)) c.as_slice-keys.ensures.value)
    (c.write_indexes.ensures ∙ ap (λ (xs : List ℕ). with_part c.write_keys.new.out (17 + 4 * length c.as_slice-keys.result.now) (index_bytes xs c.as_slice-2.result.now)) c.as_slice.ensures.value
    ∙ ap (λ (us : List Bool). with_part c.write_keys.new.out (17 + 4 * length c.as_slice-keys.result.now) (index_bytes v.ranks us)) c.as_slice-2.ensures.value)
    ∙ ap version_bytes is
