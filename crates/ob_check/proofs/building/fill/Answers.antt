use Rattle.std.proofs.Common.{arith, sym, subst, ap, ◌∙◌, length}
use Rattle.std.proofs.lemmas.List.{length-replicate}
use Rattle.ob_base.specs.Tree.{buckets}
use Rattle.ob_tables.specs.Version.{Version, blank}
use Rattle.ob_tables.specs.Buckets.{Buckets}
use Rattle.ob_tables.specs.Kept.{Held}
use Rattle.ob_tables.specs.Content.{Content, Obeys}
use Rattle.ob_check.proofs.PlaceLaws.{numbers_within}
use Rattle.ob_check.proofs.ContentReads.{kept_of, spelled_in, obeys}
use Rattle.ob_check.proofs.BuildLaws.{told_content}
use Rattle.ob_check.proofs.building.fill.Goals as goal

pub read_metas-requires-clause-spelled : goal.read_metas-requires-clause-spelled
read_metas-requires-clause-spelled c = λ u h. spelled_in c.args.p.now c.args.bytes.now (λ i. omega (arith, c.type_inv.bytes i)) c.requires.long (kept_of c.args.p.now c.args.bytes.now c.requires.kept) u h

pub u64_at-requires : goal.u64_at-requires
u64_at-requires c = omega (arith, numbers_within c.args.p.now, c.requires.long)

pub returns-clause-content : goal.returns-clause-content
returns-clause-content c =
    told_content c.args.p.now c.args.bytes.now c.u64_at.result c.read_book.new.book _ _ c.u64_at.ensures c.read_book.ensures (ap (λ (m : Buckets). m.versions) c.read_metas.ensures) (ap (λ (s : Held). s.rows) c.read_stash.ensures)

pub returns-clause-obeys : goal.returns-clause-obeys
returns-clause-obeys c =
    subst (λ (x : Content). Obeys c.args.p.now x) (sym (told_content c.args.p.now c.args.bytes.now c.u64_at.result c.read_book.new.book _ _ c.u64_at.ensures c.read_book.ensures (ap (λ (m : Buckets). m.versions) c.read_metas.ensures) (ap (λ (s : Held). s.rows) c.read_stash.ensures)))
    (obeys c.args.p.now c.args.bytes.now (λ i. omega (arith, c.type_inv.bytes i)) c.requires.long (kept_of c.args.p.now c.args.bytes.now c.requires.kept))

pub returns-clause-idle : goal.returns-clause-idle
returns-clause-idle c = record {
  lifted = ap (λ (m : Buckets). m.lifted) c.read_metas.ensures ∙ ap (λ (m : Buckets). m.lifted) c.requires.fresh.metas;
  order = ap (λ (m : Buckets). m.order) c.read_metas.ensures ∙ ap (λ (m : Buckets). m.order) c.requires.fresh.metas;
  room = ap (λ (s : Held). s.room) c.read_stash.ensures ∙ c.requires.fresh.room;
}

pub read_book-requires-clause-long : goal.read_book-requires-clause-long
read_book-requires-clause-long c = c.requires.long

pub read_book-requires-clause-none : goal.read_book-requires-clause-none
read_book-requires-clause-none c = c.requires.fresh.book

pub read_metas-requires-clause-long : goal.read_metas-requires-clause-long
read_metas-requires-clause-long c = c.requires.long

pub read_metas-requires-clause-many : goal.read_metas-requires-clause-many
read_metas-requires-clause-many c = ap (λ (m : Buckets). length m.versions) c.requires.fresh.metas ∙ length-replicate {A = Version} (buckets c.args.p.now) (blank c.args.p.now)

pub read_stash-requires-clause-long : goal.read_stash-requires-clause-long
read_stash-requires-clause-long c = c.requires.long

pub read_stash-requires-clause-kept : goal.read_stash-requires-clause-kept
read_stash-requires-clause-kept c = c.requires.kept

pub read_stash-requires-clause-none : goal.read_stash-requires-clause-none
read_stash-requires-clause-none c = c.requires.fresh.rows

pub read_stash-requires-clause-room : goal.read_stash-requires-clause-room
read_stash-requires-clause-room c = c.requires.fresh.room
