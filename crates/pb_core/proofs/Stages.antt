-- What follows of a client from where it stands.
use Rattle.std.proofs.Common.{◌≡◌, true, false, refl}
use Rattle.std.proofs.lemmas.Bool.{false≢true}
use Rattle.pb_core.specs.Client.{Stage, Idle, Storing, Looking, LoadsNumber, LoadsCode, LoadsValue, LoadsExtra, Confirming, Lacking, Taking, Holding, is_idle, is_announced, is_holding, stored_words}

-- a client that announced its request isn't idle, ..
pub announced_busy : (stage : Stage) → is_announced stage ≡ true → is_idle stage ≡ false
announced_busy Idle e = absurd (false≢true e)
announced_busy (Storing count) e = refl
announced_busy Looking e = refl
announced_busy (LoadsNumber turn) e = refl
announced_busy (LoadsCode turn) e = refl
announced_busy (LoadsValue turn code) e = refl
announced_busy (LoadsExtra turn code value) e = refl
announced_busy (Confirming turn reply) e = refl
announced_busy (Lacking turn found) e = refl
announced_busy (Taking turn found) e = refl
announced_busy Holding e = refl

-- .. and all words are stored
pub announced_words : (stage : Stage) → is_announced stage ≡ true → stored_words stage ≡ 4
announced_words Idle e = absurd (false≢true e)
announced_words (Storing count) e = absurd (false≢true e)
announced_words Looking e = refl
announced_words (LoadsNumber turn) e = refl
announced_words (LoadsCode turn) e = refl
announced_words (LoadsValue turn code) e = refl
announced_words (LoadsExtra turn code value) e = refl
announced_words (Confirming turn reply) e = refl
announced_words (Lacking turn found) e = refl
announced_words (Taking turn found) e = refl
announced_words Holding e = refl

pub holding_is : (stage : Stage) → is_holding stage ≡ true → stage ≡ Holding
holding_is Idle e = absurd (false≢true e)
holding_is (Storing count) e = absurd (false≢true e)
holding_is Looking e = absurd (false≢true e)
holding_is (LoadsNumber turn) e = absurd (false≢true e)
holding_is (LoadsCode turn) e = absurd (false≢true e)
holding_is (LoadsValue turn code) e = absurd (false≢true e)
holding_is (LoadsExtra turn code value) e = absurd (false≢true e)
holding_is (Confirming turn reply) e = absurd (false≢true e)
holding_is (Lacking turn found) e = absurd (false≢true e)
holding_is (Taking turn found) e = absurd (false≢true e)
holding_is Holding e = refl
