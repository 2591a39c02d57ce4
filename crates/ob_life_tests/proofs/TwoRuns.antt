-- Two whole runs behind a format, with a crash between them, are one life.
use Rattle.std.proofs.Common.{◌≡◌, ◌∙◌, ◌<◌, ℕ, suc, List, [], ◌∷◌, Some, refl, sym, ap, subst, inl, arith}
use mathlib.Core.Path.{fun_ext}
use Rattle.ob_base.specs.declared.params.Params.{Params}
use Rattle.ob_conduct.specs.Acts.{calls}
use Rattle.ob_pads.specs.Laws.{PadsAreFresh}
use Rattle.ob_pads.specs.Lives.{LivesOn}
use Rattle.ob_seal.specs.Sealing.{Sealing}
use Rattle.ob_seal.specs.declared.keys.Keys.{Keys}
use Rattle.ob_serial.specs.Vaults.{Standing}
use Rattle.ob_stand.specs.Stands.{StandsRing}
use Rattle.ob_store.specs.Disk.{Clock, Disk, Image, NotAfter}
use Rattle.ob_store.specs.Images.{IsSynced}
use Rattle.ob_top.proofs.Living.{whole_lives}
use Rattle.ob_top.specs.Again.{CrashesStand, FormatsStand}
use Rattle.ob_top.specs.Formats as format
use Rattle.ob_top.specs.Outside.{Given, blind}
use Rattle.ob_top.specs.Runs.{RunDone}
use Rattle.ob_top.specs.Sound.{IsSound}
use Rattle.ob_twin.proofs.Judging.{number_read}
use Rattle.ob_twin.specs.Keyed.{tagging}
use Rattle.ob_twin.specs.Reading.{AllWhole, Counts}
use Rattle.ob_twin.specs.Register.{StandsAt}
use Rattle.ob_vault.proofs.Standing.{ring_keeps}
use Rattle.ob_vault.specs.Joined.{AreGiven, AreRunsFrom, IsOneLife, IsRunTold, RunPart, RunsAreOneLife}
use Rattle.ob_vault.specs.Acts.{AreTapeWords}
use Rattle.ob_vault.specs.Formats.{beginning}
use Rattle.ob_vault.specs.Kinds.{Stands}
use Rattle.ob_vault.specs.Lives.{RingBegins, RingGoesOn}
use Rattle.ob_vault.specs.RingLives.{ring_lives}
use Rattle.ob_top.specs.Audited.{ring_audits}
use Rattle.ob_vault.specs.RingKind.{IsRingFound, IsRingMap, RingFound, ring_kind}
use Rattle.ob_vault.specs.Shapes.{answered, refused}
use Rattle.ob_words.proofs.Named.{one_keys}
use Rattle.std.specs.Borrow.{Bor}
use Rattle.ob_life_tests.specs.Held.{KeepsToHeadline}
use Rattle.ob_life_tests.specs.Lived.{AreOneLife, HasRun, HasFormatted, IsWholeRun, answers, part_of}
use Rattle.ob_life_tests.proofs.Both.{both_held}
use Rattle.ob_life_tests.proofs.Ends.{formatted, whole}
use Rattle.ob_life_tests.proofs.Lives.{joined}
use Rattle.ob_life_tests.proofs.Words.{first_given, made_given, second_given, word_in}

-- what stands at a generation is opened at the next one
number_found : (keys : Keys) (image : Image) (g n : ℕ) → StandsAt (tagging keys) 1 image g → AllWhole (tagging keys) 1 image → Counts 1 image n → n ≡ g
number_found keys image g n stands all counts = let same : Some n ≡ Some g = number_read (tagging keys) 1 g image stands (Some n) (all, counts) in cc

next_generation : (keys : Keys) (p : Params) (image : Image) (g : ℕ) (at : Standing) (f : RingFound) → StandsRing keys p g image at → IsRingFound keys p image f → ((f.run).sealer).generation ≡ suc g
next_generation keys p image g at f is found =
    let r = (found.found_in).registers in
    ap (λ (s : Sealing). s.generation) (found.goes_on).sealer ∙ ap suc (number_found keys image g (found.found).generation (is.stands).generation r.generation_whole r.generation_counts)

-- what a crash leaves of a store that stands, stands
crashed_sound : (keys : Keys) (p : Params) (ran left : Disk) → IsSound ring_kind keys p ran → ran.may_leave left.cells → IsSynced left → IsSound ring_kind keys p left
crashed_sound keys p ran left sound may sure = record {
  cells = λ tells. sound.images left.cells may;
  images = λ c now.
      let found = sound.images left.cells may in
      (found.0, subst (λ (i : Image). Stands ring_kind keys p i found.0) (sym (fun_ext (λ k. sure c now k))) found.1);
}

module _ {S : Type 0} (disk : S → Disk) (keys : Keys) (p : Params) where
  module _ (tape : Given) (old new : S) (r : IsWholeRun disk keys tape old new) (tells : (disk old).tells) (sound : IsSound ring_kind keys p (disk old)) where
    -- a run is one of the store that stands
    its_p : p ≡ (r.ran).p
    its_p =
        let (at, (g, stands)) = sound.cells tells in
        ring_keeps.one_head keys p (r.ran).p ((disk old).cells 0) (ring_keeps.has_head keys p g (disk old).cells at stands) ((r.ran).opened.head tells)

    -- and found what that stood for
    told : IsRunTold disk keys p (part_of disk r)
    told =
        let (at, stands) = sound.cells tells in
        let found = (r.ran).stood at tells (subst (λ (q : Params). Stands ring_kind keys q (disk old).cells at) its_p stands) in (
          subst (λ (q : Params). RingBegins keys q (disk old).cells (r.ran).found) (sym its_p) ((r.ran).opens_life tells),
          subst (λ (q : Params). RingGoesOn keys (r.by).lanes q (r.ran).found (disk (r.ran).between) (answered (calls (r.ran).serving.is_served.served.evidence.acts)) (r.ran).serving.traced.steps (r.ran).serving.traced.behind (refused (calls (r.ran).serving.is_served.served.evidence.acts)) tape.words (r.ran).serving.traced.more (disk new)) (sym its_p)
              (r.ran).serving.goes_on,
          (at.content, subst (λ (q : Params). IsRingMap keys q (disk (r.ran).between) (r.ran).found at.content) (sym its_p) found.content),
        )

    -- each image that a crash leaves behind it stands at its generation
    left_at : (c : Image) → (disk new).may_leave c → (at : Standing) × StandsRing keys p (((r.ran).found.run).sealer).generation c at
    left_at c may =
        let (at, stands) = sound.cells tells in
        let (told, settled) = (r.ran).durable tells in
        let left = (r.ran).serving.left at told settled ((r.ran).stood at tells (subst (λ (q : Params). Stands ring_kind keys q (disk old).cells at) its_p stands)) in
        let found = left.now c (inl may) in
        (found.0, subst (λ (q : Params). StandsRing keys q (((r.ran).found.run).sealer).generation c found.0) (sym its_p) found.1)

  -- its seals are a part of the life of the store's pads
  its_lives : (tape : Given) (old new : S) (r : IsWholeRun disk keys tape old new) → (disk old).tells → LivesOn disk keys old new (answers disk r)
  its_lives tape old new r tells =
      let s = (r.ran).serving in
      (whole_lives disk keys old (r.ran).between new (r.ran).sealing s.goes (r.ran).begun (answers disk r) (ring_kind.seals s.traced.behind) s.seals_on (s.tells refl ((r.ran).durable tells).0)).lives

  module _ (counts_now : (x : S) (t : Clock) (c : Image) → NotAfter t (disk x).moment → (disk x).may_leave c → (disk x).left_since t c) (includes_reads : (x : S) → (disk x).tells → (disk x).leaves → (disk x).may_leave (disk x).cells)
      (one_life : RunsAreOneLife disk) (pads : PadsAreFresh disk) (formats : FormatsStand disk) (crashes : CrashesStand disk)
      (made_by first_by second_by : Given) (blank made ran left new : S) (dummies : 0 < p.dummies) (format_is : format.IsFormatted ring_kind ring_lives ring_audits disk made_by keys p blank made)
      (sound : IsSound ring_kind keys p (disk made)) (told_blank : (disk blank).tells) (leaves_blank : (disk blank).leaves) (leaves_made : (disk made).leaves)
      (first : IsWholeRun disk keys first_by made ran) (sound_on : IsSound ring_kind keys p (disk ran)) (may : (disk ran).may_leave (disk left).cells) (sure : IsSynced (disk left)) (told_left : (disk left).tells) (leaves_left : (disk left).leaves)
      (second : IsWholeRun disk keys second_by left new) (first_holds : KeepsToHeadline disk keys first_by made ran) (second_holds : KeepsToHeadline disk keys second_by left new) where
    told_made : (disk made).tells
    told_made = format_is.tells told_blank

    sound_left : IsSound ring_kind keys p (disk left)
    sound_left = crashed_sound keys p (disk ran) (disk left) sound_on may sure

    abbrev generation : ℕ
    generation = (((first.ran).found.run).sealer).generation

    abbrev next : ℕ
    next = (((second.ran).found.run).sealer).generation

    -- the first run found the format's generation, so its own is the next one;
    behind_first : generation ≡ 2
    behind_first =
        let p_is = its_p first_by made ran first told_made sound in
        next_generation keys (first.ran).p (disk made).cells 1 beginning (first.ran).found (subst (λ (q : Params). StandsRing keys q 1 (disk made).cells beginning) p_is (format_is.made.stands told_blank)) ((first.ran).opened.finds told_made)

    -- and the second one found that
    next_is : next ≡ suc generation
    next_is =
        let (at, stands) = left_at first_by made ran first told_made sound (disk left).cells may in
        let p_is = its_p second_by left new second told_left sound_left in
        next_generation keys (second.ran).p (disk left).cells generation at (second.ran).found (subst (λ (q : Params). StandsRing keys q generation (disk left).cells at) p_is stands) ((second.ran).opened.finds told_left)

    pub lived : AreOneLife disk keys made_by first_by second_by made new
    lived =
        let word_of = word_in generation made_by.words first_by.words second_by.words in
        let parts : List (RunPart S) = part_of disk first ∷ part_of disk second ∷ [] in
        let first_words = first_given generation made_by.words first_by.words second_by.words in
        let second_words = second_given generation made_by.words first_by.words second_by.words next (λ is. omega (arith, is, next_is)) (λ is. omega (arith, is, next_is, behind_first)) in
        let given : AreGiven word_of parts = (first_words, (second_words, tt)) in
        let from : AreRunsFrom disk keys p (disk made).may_leave parts = (includes_reads made told_made leaves_made, told first_by made ran first told_made sound, (may, told second_by left new second told_left sound_left, tt)) in
        let drawn = made_given generation made_by.words first_by.words second_by.words (λ is. omega (arith, is, behind_first)) in
        let made_words : AreTapeWords word_of made_by.generation made_by.words = subst (λ n. AreTapeWords word_of n made_by.words) (sym format_is.draws.first) drawn in
        let lives_on : IsOneLife disk keys p word_of made_by.words parts = one_life keys p made_by.words made parts (format_is.begins_life told_blank) from word_of given in
        let lives = joined disk keys counts_now pads made ran left new (answers disk first) (answers disk second) (its_lives first_by made ran first told_made) (its_lives second_by left new second told_left)
        (format_is.begins told_blank leaves_blank) may sure told_left leaves_left in
        record {
          p = p;
          ran = ran;
          left = left;
          first = first;
          crashed = may;
          second = second;
          word_of = word_of;
          given = given;
          drawn = made_words;
          one_life = lives_on;
          apart = lives_on.apart dummies drawn;
          acts = lives.acts;
          is_life = lives.is_life;
          answered = lives.answered;
          fresh = lives.fresh;
          headlines = both_held disk keys p made_by first_by second_by blank made ran left new word_of formats crashes format_is told_blank leaves_made made_words
              first_holds (subst (λ n. AreTapeWords word_of n first_by.words) (sym (first.ran).serving.in_generation) first_words)
              may sure told_left leaves_left second_holds (subst (λ n. AreTapeWords word_of n second_by.words) (sym (second.ran).serving.in_generation) second_words);
        }

-- the same of calls that answered 0 under the keys of one text
pub lived_so : {S : Type 0} (disk : S → Disk) (counts_now : (x : S) (t : Clock) (c : Image) → NotAfter t (disk x).moment → (disk x).may_leave c → (disk x).left_since t c) (includes_reads : (x : S) → (disk x).tells → (disk x).leaves → (disk x).may_leave (disk x).cells)
    → RunsAreOneLife disk → PadsAreFresh disk → FormatsStand disk → CrashesStand disk → ((x : S) → (disk x).tells) → ((x : S) → (disk x).leaves) → (text : Bor (List ℕ)) (made_by first_by second_by : Given) (blank made ran left new : S)
    → HasFormatted disk text.now made_by blank made → HasRun disk text.now first_by made ran → (disk ran).may_leave (disk left).cells → IsSynced (disk left) → HasRun disk text.now second_by left new
    → (keys : Keys) × (made_is : Given) × (first_is : Given) × (second_is : Given) × (formatted_is : S) × AreOneLife disk keys made_is first_is second_is formatted_is new
lived_so {S} disk counts_now includes_reads one_life pads formats crashes tells leaves text made_by first_by second_by blank made ran left new f one may sure two =
    let keys : Keys = f.keys in
    let one_same : one.keys ≡ keys = one_keys (Some text) one.keys keys one.are f.are in
    let two_same : two.keys ≡ keys = one_keys (Some text) two.keys keys two.are f.are in
    let one_done = subst (λ (k : Keys). RunDone ring_kind ring_lives ring_audits disk one.by first_by k made ran one.before one.after blind blind 0) one_same one.done in
    let two_done = subst (λ (k : Keys). RunDone ring_kind ring_lives ring_audits disk two.by second_by k left new two.before two.after blind blind 0) two_same two.done in
    let one_held = subst (λ (k : Keys). KeepsToHeadline disk k first_by made ran) one_same one.held in
    let two_held = subst (λ (k : Keys). KeepsToHeadline disk k second_by left new) two_same two.held in
    let sound = (f.done).sound refl (tells blank) in (
      keys,
      made_by,
      first_by,
      second_by,
      made,
      lived disk keys f.p counts_now includes_reads one_life pads formats crashes made_by first_by second_by blank made ran left new (omega (arith, f.p.in_range.some_dummies)) (formatted disk keys made_by f.p blank made f.before f.after f.done) sound (tells blank) (leaves blank) (leaves made)
          (whole disk keys one.by first_by made ran one.before one.after one_done) (one_done.sound f.p (tells made) sound) may sure (tells left) (leaves left) (whole disk keys two.by second_by left new two.before two.after two_done)
          one_held two_held,
    )
