-- The headline's premises are met behind a format, and again behind each run.
use Rattle.std.proofs.Common.{◌++◌, refl, sym, subst, inl, inr}
use mathlib.Core.Path.{fun_ext}
use Rattle.ob_base.specs.declared.params.Params.{Params}
use Rattle.ob_seal.specs.declared.keys.Keys.{Keys}
use Rattle.ob_serial.specs.Vaults.{Standing}
use Rattle.ob_store.specs.Disk.{Disk, Image}
use Rattle.ob_store.specs.Images.{IsImageOf}
use Rattle.ob_vault.proofs.VersionWords.{format_ranked}
use Rattle.ob_vault.specs.Acts.{AreTapeWords}
use Rattle.ob_vault.specs.Formats.{beginning}
use Rattle.ob_vault.specs.Kinds.{AllStand, Stands}
use Rattle.ob_vault.specs.Lives.{opening_acts}
use Rattle.ob_vault.specs.RingKind.{ring_kind}
use Rattle.ob_top.specs.Again.{CrashesStand, FormatsStand, IsStoodAgain, RunsStand}
use Rattle.ob_top.specs.Calls.{RunCall}
use Rattle.ob_top.specs.Headline.{Headline, RunTold}
use Rattle.ob_top.specs.Outside.{Given}
use Rattle.ob_top.specs.Pasts.{PastLife, life_of}

module _ {S : Type 0} (disk : S → Disk) where
  pub formats_stand : ((x : S) → (disk x).tells → (disk x).leaves → (disk x).may_leave (disk x).cells) → FormatsStand disk
  formats_stand includes_reads keys p made_by tape old made word_of is told leaves drawn words =
      let f = is.begins_life told in (
        f.slot,
        record {
          tells = (is.tells told, leaves);
          sound = λ c may. (beginning, (1, is.made.images told c may));
          is_past = record {
            ranked = f.ranked;
            is_life = tt;
            in_turn = record { format = format_ranked p made_by.words f.slot word_of f.many f.of_words (subst (λ g. AreTapeWords word_of g made_by.words) is.draws.first drawn); behind = tt };
            small = f.small;
          };
          is_at = record { stands = (1, is.made.stands told); there = f.stands word_of (disk made).cells (includes_reads made (is.tells told) leaves) };
          words = words;
        },
      )

  module _ (keys : Keys) (p : Params) (at : Standing) (past : PastLife) (call : RunCall S) (run : RunTold S) (h : Headline disk keys p at past call run) where
    -- each image of the store that was left stands
    stands_so : (c : Image) → IsImageOf (disk call.new) c → (now : Standing) × Stands ring_kind keys p c now
    stands_so c image = let (found, finds, leads) = h.again.0 c image in (leads.at, leads.is_at.stands)

    stood_there : (left : S) (tape : Given) → IsImageOf (disk call.new) (disk left).cells → AllStand ring_kind keys p (disk left) → (disk left).tells → (disk left).leaves → AreTapeWords past.word_of tape.generation tape.words → IsStoodAgain disk keys p past tape left
    stood_there left tape image sound told leaves words =
        let (found, finds, leads) = h.again.0 (disk left).cells image in (
          leads.at,
          (opening_acts (life_of p past) ++ run.shown) ++ (run.cut ++ found),
          record { tells = (told, leaves); sound = sound; is_past = leads.is_past; is_at = leads.is_at; words = words },
        )

  pub runs_stand : RunsStand disk
  runs_stand keys p at past call run tape h none words =
      let (told, leaves) = h.again.1 none in
      stood_there keys p at past call run h call.new tape (inr (told, refl)) (λ c may. stands_so keys p at past call run h c (inl may)) told leaves words

  pub crashes_stand : CrashesStand disk
  crashes_stand keys p at past call run left tape h image settled told leaves words =
      stood_there keys p at past call run h left tape image
      (λ c may. let (now, stands) = stands_so keys p at past call run h (disk left).cells image in (now, subst (λ (i : Image). Stands ring_kind keys p i now) (sym (fun_ext (λ k. settled c may k))) stands)) told leaves words
