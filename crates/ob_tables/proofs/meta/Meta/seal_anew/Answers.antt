use Rattle.std.proofs.Common.{◌≡◌, ℕ, List, Bool, false, replicate, length, subst, sym, ap, ◌∙◌}
use Rattle.std.specs.List.{refill}
use Rattle.ob_tables.specs.Rank.{ranks_of}
use Rattle.ob_tables.specs.Version.{Version, IsWhole, sealed_anew}
use Rattle.ob_tables.proofs.VersionLaws.{whole_sealed, sealed_is}
use Rattle.ob_tables.proofs.meta.Meta.seal_anew.Goals as goal

-- the version as it was, and its parts as they were written
written : (v : Version) (home generation base : ℕ) (words ranks : List ℕ) (used old_used : List Bool) → IsWhole v → length words ≡ length v.ranks → old_used ≡ v.used → ranks ≡ ranks_of words → used ≡ replicate (length old_used) false
    → ◌≡◌ {A = Version} (record { home = home; generation = generation; base = base; keys = v.keys; ranks = refill (length v.ranks) v.ranks ranks; used = refill (length v.used) v.used used })
    (sealed_anew v home generation base words)
written v home generation base words ranks used ou w long is_ou r u = sealed_is v home generation base words ranks used w long r (u ∙ ap (λ (xs : List Bool). replicate (length xs) false) is_ou)

kept_long : (v w : Version) → v ≡ w → (words : List ℕ) → length words ≡ length w.ranks → length words ≡ length v.ranks
kept_long v w e words h = subst (λ (x : Version). length words ≡ length x.ranks) (sym e) h

pub invariant_of-self : goal.invariant_of-self
invariant_of-self c =
    let v : Version = record { home = c.self.inside.home; generation = c.self.inside.generation; base = c.self.inside.base; keys = c.self.inside.keys.items; ranks = c.self.inside.ranks.items; used = c.self.inside.used.items } in
    let long : length c.args.words.now ≡ length v.ranks = kept_long v c.args.self.now c.self.view_is c.args.words.now c.requires.words in
    subst IsWhole (sym (written v c.args.home c.args.generation c.args.base c.args.words.now c.ranks.new.out c.clear_marks.new.used c.as_mut_slice-2.result.now c.self.invariant long c.as_mut_slice-2.ensures.value c.ranks.ensures.ranks c.clear_marks.ensures))
    (whole_sealed v c.args.home c.args.generation c.args.base c.args.words.now c.self.invariant c.requires.home long)
