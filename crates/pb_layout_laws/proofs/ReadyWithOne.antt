-- A device is ready with one standing where all its images represent it.
use Rattle.std.proofs.Common.{◌≡◌, ◌⊎◌, ◌↔◌, ℕ, ◌≤◌, List, [], ◌∷◌, ◌++◌, All, length, reverse, Some, subst, sym, ◌∙◌, inl, inr}
use Rattle.std.proofs.lemmas.List.{append-nil, append_assoc, reverse-append}
use Rattle.std.proofs.lemmas.List.Elements.{All-nil, All-head, All-tail}
use Rattle.pb_pmem.specs.declared.line.Line.{Line}
use Rattle.pb_pmem.specs.declared.log.LogOp.{LogOp}
use Rattle.pb_pmem.specs.Contents.{contents}
use Rattle.pb_pmem.specs.Crash.{MayWrite, IsCrashImage}
use Rattle.pb_pmem.specs.Lines.{word_of}
use Rattle.pb_pmem.specs.Past.{Words, Leaves as LeavesWords, DiffersBy}
use Rattle.pb_pmem.proofs.Agree.{Leaves-IsCrashImage}
use Rattle.pb_pmem.proofs.Bounds.{Leaves-before}
use Rattle.pb_pmem.proofs.CrashLaws.{IsCrashImage-contents, WritesSame}
use Rattle.pb_pmem.proofs.Words.{same_images}
use Rattle.pb_object.specs.Standing.{Standing}
use Rattle.pb_layout.specs.Exits.{AllImagesRepresent}
use Rattle.pb_layout.specs.Ready.{ImageRepresentsOne, IsAllowed, IsReady}
use Rattle.pb_layout.specs.Recovered.{Represents}
use Rattle.pb_layout.proofs.Readiness.{allowed_writes_same}
use Rattle.pb_layout_laws.proofs.Images.{image_of, word_of-past, word_of-image_of_or, left_image}

-- what settling may do to a region that represents s
abbrev pub Settles : Standing → LogOp → Type 0
Settles s op = IsAllowed (Some s ∷ []) op

-- Images, one operation after the other

-- an image that a crash may leave comes from one before the last operation, which differs only where that may have written
pub left_before : (base : List Line) (log : List LogOp) (op : LogOp) (image : List Line) → IsCrashImage base (log ++ op ∷ []) image → (before : List Line) × IsCrashImage base log before × DiffersBy op (word_of before) (word_of image)
left_before base log op image left =
    (image_of (length base) before.0, left_image base log before.0 before.1, λ line place. go line place (before.2 line place) (word_of-image_of_or (length base) before.0 line place))
  where
    before : (words : Words) × LeavesWords base (reverse log) words × DiffersBy op words (word_of image)
    before =
        Leaves-before base op (reverse log) (word_of image) (subst (λ (l : List LogOp). LeavesWords base l (word_of image)) (reverse-append log (op ∷ [])) (Leaves-IsCrashImage base (log ++ op ∷ []) image left))

    go : (line place : ℕ) → (word_of image line place ≡ before.0 line place) ⊎ MayWrite line place (word_of image line place) op → (word_of (image_of (length base) before.0) line place ≡ before.0 line place) ⊎ ((word_of (image_of (length base) before.0) line place ≡ 0) × ((length base ≤ line) ⊎ (8 ≤ place))) → (word_of image line place ≡ word_of (image_of (length base) before.0) line place) ⊎ MayWrite line place (word_of image line place) op
    go line place (inr written) within = inr written
    go line place (inl same) (inl inside) = inl (same ∙ sym inside)
    go line place (inl same) (inr far) =
        inl (word_of-past image line place (subst (λ (n : ℕ). (n ≤ line) ⊎ (8 ≤ place)) (sym left.left.lines) far.1) ∙ sym far.0)

-- an operation that writes what stands in an image already leaves that one
pub same_before : (op : LogOp) (before image : List Line) → length image ≡ length before → WritesSame before op → DiffersBy op (word_of before) (word_of image) → image ≡ before
same_before op before image long same differs =
    same_images image before long (λ line place. elim (differs line place) [
      | inl e ↦ e
      | inr written ↦ same line place (word_of image line place) written
    ])

-- what each settling operation keeps, all of them keep
pub along : (s : Standing) (P : List LogOp → Type 0) → ((log : List LogOp) (op : LogOp) → Settles s op → P log → P (log ++ op ∷ [])) → (log ops : List LogOp) → All (Settles s) ops → P log → P (log ++ ops)
along s P step log [] settle holds = subst P (sym (append-nil log)) holds
along s P step log (op ∷ ops) settle holds =
    subst P (append_assoc log (op ∷ []) ops) (along s P step (log ++ op ∷ []) ops (All-tail (Settles s) op ops settle) (step log op (All-head (Settles s) op ops settle) holds))

-- Ready with one standing

-- the one member of a ready device is what it represents
pub only_member : (image : List Line) (s : Standing) → ImageRepresentsOne image (Some s ∷ []) → Represents image s
only_member image s (inl stands) = stands
only_member image s (inr never) = absurd never

-- what settles s leaves the images that represent s
settled_one : (base : List Line) (s : Standing) (log : List LogOp) (op : LogOp) → Settles s op → AllImagesRepresent base log s → AllImagesRepresent base (log ++ op ∷ []) s
settled_one base s log op settles stand image left =
    let before = left_before base log op image left in
    let stood = stand before.0 before.1 in
    subst (λ (i : List Line). Represents i s) (sym (same_before op before.0 image (left.left.lines ∙ sym before.1.left.lines) (allowed_writes_same before.0 (Some s) op stood settles) before.2)) stood

-- a device whose images all represent s is ready with it
pub one_from_images : (base : List Line) (log : List LogOp) (s : Standing) → AllImagesRepresent base log s → IsReady base log (Some s ∷ [])
one_from_images base log s stand = record {
  shape = tt;
  holds = inl (stand (contents base log) (IsCrashImage-contents base log));
  images = λ more allowed image left. inl (along s (λ l. AllImagesRepresent base l s) (settled_one base s) log more allowed stand image left);
}

pub images_from_one : (base : List Line) (log : List LogOp) (s : Standing) → IsReady base log (Some s ∷ []) → AllImagesRepresent base log s
images_from_one base log s ready image left =
    only_member image s (ready.images [] (All-nil (IsAllowed (Some s ∷ []))) image (subst (λ (l : List LogOp). IsCrashImage base l image) (sym (append-nil log)) left))

pub ready_with_one : (base : List Line) (log : List LogOp) (s : Standing) → IsReady base log (Some s ∷ []) ↔ AllImagesRepresent base log s
ready_with_one base log s = (images_from_one base log s, one_from_images base log s)
