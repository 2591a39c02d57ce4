use Rattle.std.proofs.Common.{◌≡◌, ◌≤◌, ◌-◌, ◌++◌, ℕ, List, Bool, Option, Some, None, false, map, replicate, length, subst, sym, ap, ◌∙◌}
use Rattle.std.specs.List.{refill}
use Rattle.ob_tables.specs.Rank.{ranks_of}
use Rattle.ob_tables.specs.Version.{Version, IsWhole, filled}
use Rattle.ob_tables.proofs.VersionLaws.{whole_filled, filled_is}
use Rattle.ob_tables.proofs.meta.Meta.fill.Goals as goal

-- the version as it was, and its parts as they were written
written : (v : Version) (home generation base : ℕ) (keys words : List ℕ) (places : List (Option ℕ)) (ranks : List ℕ) (used : List Bool)
    (old_keys : List (Option ℕ)) (old_ranks : List ℕ) (old_used : List Bool)
    → IsWhole v → length keys ≤ length v.keys → length words ≡ length v.ranks → old_keys ≡ v.keys → old_used ≡ v.used
    → places ≡ map (λ k. Some k) keys ++ replicate (length old_keys - length keys) None → ranks ≡ ranks_of words → used ≡ replicate (length old_used) false
    → ◌≡◌ {A = Version} (record { home = home; generation = generation; base = base; keys = refill (length v.keys) v.keys places; ranks = refill (length v.ranks) v.ranks ranks; used = refill (length v.used) v.used used })
    (filled v home generation base keys words)
written v home generation base keys words places ranks used ok or ou w few long is_ok is_ou p r u =
    filled_is v home generation base keys words places ranks used w few long
    (p ∙ ap (λ (xs : List (Option ℕ)). map (λ k. Some k) keys ++ replicate (length xs - length keys) None) is_ok) r
    (u ∙ ap (λ (xs : List Bool). replicate (length xs) false) is_ou)

kept : (v w : Version) → v ≡ w → (keys : List ℕ) → length keys ≤ length w.keys → length keys ≤ length v.keys
kept v w e keys h = subst (λ (x : Version). length keys ≤ length x.keys) (sym e) h

kept_long : (v w : Version) → v ≡ w → (words : List ℕ) → length words ≡ length w.ranks → length words ≡ length v.ranks
kept_long v w e words h = subst (λ (x : Version). length words ≡ length x.ranks) (sym e) h

pub invariant_of-self : goal.invariant_of-self
invariant_of-self c =
    let v : Version = record { home = c.self.inside.home; generation = c.self.inside.generation; base = c.self.inside.base; keys = c.self.inside.keys.items; ranks = c.self.inside.ranks.items; used = c.self.inside.used.items } in
    let few : length c.args.keys.now ≤ length v.keys = kept v c.args.self.now c.self.view_is c.args.keys.now c.requires.keys in
    let long : length c.args.words.now ≡ length v.ranks = kept_long v c.args.self.now c.self.view_is c.args.words.now c.requires.words in
    subst IsWhole
    (sym (written v c.args.home c.args.generation c.args.base c.args.keys.now c.args.words.now c.put_keys.new.places c.ranks.new.out c.clear_marks.new.used
    c.as_mut_slice.result.now c.as_mut_slice-2.result.now c.as_mut_slice-3.result.now c.self.invariant few long c.as_mut_slice.ensures.value c.as_mut_slice-3.ensures.value
    c.put_keys.ensures c.ranks.ensures.ranks c.clear_marks.ensures))
    (whole_filled v c.args.home c.args.generation c.args.base c.args.keys.now c.args.words.now c.self.invariant c.requires.home few long)
