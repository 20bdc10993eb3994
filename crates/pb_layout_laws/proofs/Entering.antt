-- Readiness as bounds on what a crash may leave, and back.
use Rattle.std.proofs.Common.{ℕ, List, [], ◌∷◌, ◌++◌, length, reverse, Option, ap, subst, sym, refl, ◌∙◌}
use Rattle.std.specs.List.{All}
use Rattle.std.proofs.lemmas.List.{append-nil, append_assoc, reverse-append}
use Rattle.std.proofs.lemmas.List.Elements.{All-head, All-tail, All-nil}
use Rattle.pb_pmem.specs.declared.line.Line.{Line}
use Rattle.pb_pmem.specs.declared.log.LogOp.{LogOp}
use Rattle.pb_pmem.specs.declared.log.LogOp.TheVariants.{Whole, Word, Back, Fence, Sync}
use Rattle.pb_pmem.specs.Contents.{contents}
use Rattle.pb_pmem.specs.Crash.{IsCrashImage}
use Rattle.pb_pmem.specs.Lines.{word_of}
use Rattle.pb_pmem.specs.Past.{Words, Leaves, DiffersBy, Bounds}
use Rattle.pb_pmem.proofs.Agree.{Leaves-IsCrashImage}
use Rattle.pb_pmem.proofs.Bounds.{Bounds-write, Bounds-Back, Bounds-Fence, Bounds-Sync, Bounds-weaker}
use Rattle.pb_pmem.proofs.AtNextMark.{Leaves-AtNextMark, Leaves-Last}
use Rattle.pb_pmem.proofs.CrashLaws.{IsCrashImage-contents}
use Rattle.pb_pmem.proofs.Words.{reverse-cons}
use Rattle.pb_object.specs.Standing.{Standing}
use Rattle.pb_layout.specs.Ready.{ImageRepresentsOne, HasStanding, IsSettlingWord, IsAllowed, AreMembers, IsReady}
use Rattle.pb_layout_laws.proofs.Images.{image_of, image_of-word_of, left_image}

-- an image, said in words, that represents one of these
abbrev pub IsOneOf : List Line → List (Option Standing) → Words → Type 0
IsOneOf base members words = ImageRepresentsOne (image_of (length base) words) members

-- each image of a ready device represents a member
pub ready_bounds : (base : List Line) (log : List LogOp) (members : List (Option Standing)) → IsReady base log members → Bounds base (reverse log) (IsOneOf base members) (IsOneOf base members) (IsOneOf base members)
ready_bounds base log members ready =
    let all : (words : Words) → Leaves base (reverse log) words → IsOneOf base members words = λ words leaves. ready.images [] (All-nil (IsAllowed members)) (image_of (length base) words) (subst (λ (l : List LogOp). IsCrashImage base l (image_of (length base) words)) (sym (append-nil log)) (left_image base log words leaves)) in
    record {
      all = all;
      last = λ words last. all words (Leaves-Last base (reverse log) words last);
      at_next_mark = λ words at_next_mark. all words (Leaves-AtNextMark base (reverse log) words at_next_mark);
    }

-- words that settling may write for a member lead from E to E
abbrev pub KeepsSettled : List (Option Standing) → (Words → Type 0) → Type 0
KeepsSettled members E =
    (line word to : ℕ) → HasStanding (IsSettlingWord line word to) members → (before image : Words) → E before → DiffersBy (Word line word to) before image → E image

abbrev pub Implies : (Words → Type 0) → (Words → Type 0) → Type 0
Implies P Q = (words : Words) → P words → Q words

allowed_op : {base : List Line} {past : List LogOp} (members : List (Option Standing)) (M E : Words → Type 0) → Implies E M → KeepsSettled members E → (op : LogOp) → IsAllowed members op → Bounds base past M E E → Bounds base (op ∷ past) M E E
allowed_op members M E inside keeps (Whole line to) allowed bounds = absurd allowed
allowed_op members M E inside keeps (Word line word to) allowed bounds =
    Bounds-write (Word line word to) line M E E refl bounds (keeps line word to allowed) (keeps line word to allowed) (λ words m. m) inside
allowed_op members M E inside keeps (Back first count) allowed bounds = Bounds-Back first count E bounds (λ words e given. e)
allowed_op members M E inside keeps Fence allowed bounds = Bounds-Fence bounds
allowed_op members M E inside keeps Sync allowed bounds = Bounds-weaker M E E (Bounds-Sync bounds) inside (λ words e. e) (λ words e. e)

pub allowed_bounds : {base : List Line} (past : List LogOp) (members : List (Option Standing)) (M E : Words → Type 0) → Implies E M → KeepsSettled members E → (more : List LogOp) → All (IsAllowed members) more → Bounds base past M E E → Bounds base (reverse more ++ past) M E E
allowed_bounds past members M E inside keeps [] allowed bounds = bounds
allowed_bounds {base} past members M E inside keeps (op ∷ more) allowed bounds =
    subst (λ (l : List LogOp). Bounds base l M E E) (sym (ap (λ (l : List LogOp). l ++ past) (reverse-cons op more) ∙ append_assoc (reverse more) (op ∷ []) past)) (allowed_bounds (op ∷ past) members M E inside keeps more (All-tail (IsAllowed members) op more allowed) (allowed_op members M E inside keeps op (All-head (IsAllowed members) op more allowed) bounds))

-- what is known of a device that is ready with these: its images, those of the greatest cut and the held ones
pub record Enters (base : List Line) (log : List LogOp) (members : List (Option Standing)) : Type 1 where
  pub shape : AreMembers members
  pub settled : Words → Type 0
  pub bounds : Bounds base (reverse log) (IsOneOf base members) settled settled
  pub inside : Implies settled (IsOneOf base members)
  pub keeps : KeepsSettled members settled

pub ready_from_bounds : (base : List Line) (log : List LogOp) (members : List (Option Standing)) → Enters base log members → IsReady base log members
ready_from_bounds base log members enters =
    let M = IsOneOf base members in
    let images : (more : List LogOp) → All (IsAllowed members) more → (image : List Line) → IsCrashImage base (log ++ more) image → ImageRepresentsOne image members =
    λ more allowed image left.
    let bounds = allowed_bounds (reverse log) members M enters.settled enters.inside enters.keeps more allowed enters.bounds in
    let leaves = subst (λ (l : List LogOp). Leaves base l (word_of image)) (reverse-append log more) (Leaves-IsCrashImage base (log ++ more) image left) in
    subst (λ (i : List Line). ImageRepresentsOne i members) (ap (λ (n : ℕ). image_of n (word_of image)) (sym left.left.lines) ∙ image_of-word_of image) (bounds.all (word_of image) leaves) in
    record {
      shape = enters.shape;
      holds = images [] (All-nil (IsAllowed members)) (contents base log) (subst (λ (l : List LogOp). IsCrashImage base l (contents base log)) (sym (append-nil log)) (IsCrashImage-contents base log));
      images = images;
    }

-- each image that is left represents what the bounds say
pub image_from_bounds : {base : List Line} {A T S : Words → Type 0} (log : List LogOp) (P : List Line → Type 0) → Bounds base (reverse log) A T S → ((words : Words) → A words → P (image_of (length base) words)) → (image : List Line) → IsCrashImage base log image → P image
image_from_bounds {base} log P bounds holds image left =
    subst P (ap (λ (n : ℕ). image_of n (word_of image)) (sym left.left.lines) ∙ image_of-word_of image) (holds (word_of image) (bounds.all (word_of image) (Leaves-IsCrashImage base log image left)))
