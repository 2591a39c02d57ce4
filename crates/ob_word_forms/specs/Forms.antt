-- The forms of a command line: a command's name, its operands, then some of its options.
use Rattle.std.specs.Prelude.{◌≡◌, ◌≢◌, ◌<◌, Bool, true, false, Option, Some, None, List, [], ◌∷◌, length, slice_index, codes}
use Rattle.std.specs.Str.{bytes_eq}
use Rattle.clap.specs.Walk.{Text}

-- A plain word isn't empty and doesn't begin with `-`.
abbrev pub IsPlain : Text → Type 0
IsPlain word = (0 < length word) × (slice_index word 0 ≢ 45)

abbrev pub ArePlain : List Text → Type 0
ArePlain [] = Unit {0}
ArePlain (word ∷ words) = IsPlain word × ArePlain words

-- an option, with its value
pub data Choice : Type 0 where
  lanes : Text → Choice
  mirror : Text → Choice
  reads : Text → Choice
  writes : Text → Choice
  trace : Text → Choice
  turns : Choice

abbrev pub id_of : Choice → Text
id_of (lanes k) = codes "lanes"
id_of (mirror file) = codes "mirror"
id_of (reads q) = codes "reads"
id_of (writes w) = codes "writes"
id_of (trace file) = codes "trace"
id_of turns = codes "turns"

-- the words of options
abbrev pub words_of : List Choice → List Text
words_of [] = []
words_of (lanes k ∷ choices) = codes "--lanes" ∷ k ∷ words_of choices
words_of (mirror file ∷ choices) = codes "--mirror" ∷ file ∷ words_of choices
words_of (reads q ∷ choices) = codes "--reads" ∷ q ∷ words_of choices
words_of (writes w ∷ choices) = codes "--writes" ∷ w ∷ words_of choices
words_of (trace file ∷ choices) = codes "--trace" ∷ file ∷ words_of choices
words_of (turns ∷ choices) = codes "--turns" ∷ words_of choices

abbrev pub HasPlainValue : Choice → Type 0
HasPlainValue (lanes k) = IsPlain k
HasPlainValue (mirror file) = IsPlain file
HasPlainValue (reads q) = IsPlain q
HasPlainValue (writes w) = IsPlain w
HasPlainValue (trace file) = IsPlain file
HasPlainValue turns = Unit {0}

-- none of the options has this id
abbrev pub IsWithout : Text → List Choice → Type 0
IsWithout id [] = Unit {0}
IsWithout id (choice ∷ choices) = (bytes_eq id (id_of choice) ≡ false) × IsWithout id choices

-- the values are plain, and each option is there at most once
abbrev pub AreChoices : List Choice → Type 0
AreChoices [] = Unit {0}
AreChoices (choice ∷ choices) = HasPlainValue choice × IsWithout (id_of choice) choices × AreChoices choices

-- `format` has no other option than `--trace`
abbrev pub AreOfFormat : List Choice → Type 0
AreOfFormat [] = Unit {0}
AreOfFormat (trace file ∷ choices) = AreOfFormat choices
AreOfFormat (lanes k ∷ choices) = ⊥
AreOfFormat (mirror file ∷ choices) = ⊥
AreOfFormat (reads q ∷ choices) = ⊥
AreOfFormat (writes w ∷ choices) = ⊥
AreOfFormat (turns ∷ choices) = ⊥

-- what the options say
abbrev pub lanes_in : List Choice → Option Text
lanes_in [] = None
lanes_in (lanes k ∷ choices) = Some k
lanes_in (mirror file ∷ choices) = lanes_in choices
lanes_in (reads q ∷ choices) = lanes_in choices
lanes_in (writes w ∷ choices) = lanes_in choices
lanes_in (trace file ∷ choices) = lanes_in choices
lanes_in (turns ∷ choices) = lanes_in choices

abbrev pub mirror_in : List Choice → Option Text
mirror_in [] = None
mirror_in (mirror file ∷ choices) = Some file
mirror_in (lanes k ∷ choices) = mirror_in choices
mirror_in (reads q ∷ choices) = mirror_in choices
mirror_in (writes w ∷ choices) = mirror_in choices
mirror_in (trace file ∷ choices) = mirror_in choices
mirror_in (turns ∷ choices) = mirror_in choices

abbrev pub reads_in : List Choice → Option Text
reads_in [] = None
reads_in (reads q ∷ choices) = Some q
reads_in (lanes k ∷ choices) = reads_in choices
reads_in (mirror file ∷ choices) = reads_in choices
reads_in (writes w ∷ choices) = reads_in choices
reads_in (trace file ∷ choices) = reads_in choices
reads_in (turns ∷ choices) = reads_in choices

abbrev pub writes_in : List Choice → Option Text
writes_in [] = None
writes_in (writes w ∷ choices) = Some w
writes_in (lanes k ∷ choices) = writes_in choices
writes_in (mirror file ∷ choices) = writes_in choices
writes_in (reads q ∷ choices) = writes_in choices
writes_in (trace file ∷ choices) = writes_in choices
writes_in (turns ∷ choices) = writes_in choices

abbrev pub trace_in : List Choice → Option Text
trace_in [] = None
trace_in (trace file ∷ choices) = Some file
trace_in (lanes k ∷ choices) = trace_in choices
trace_in (mirror file ∷ choices) = trace_in choices
trace_in (reads q ∷ choices) = trace_in choices
trace_in (writes w ∷ choices) = trace_in choices
trace_in (turns ∷ choices) = trace_in choices

abbrev pub turns_in : List Choice → Bool
turns_in [] = false
turns_in (turns ∷ choices) = true
turns_in (lanes k ∷ choices) = turns_in choices
turns_in (mirror file ∷ choices) = turns_in choices
turns_in (reads q ∷ choices) = turns_in choices
turns_in (writes w ∷ choices) = turns_in choices
turns_in (trace file ∷ choices) = turns_in choices

-- the word is no command's name
abbrev pub IsNoName : Text → Type 0
IsNoName word = (word ≢ codes "format") × (word ≢ codes "run") × (word ≢ codes "audit") × (word ≢ codes "drill")
