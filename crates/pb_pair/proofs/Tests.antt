-- What a tested result says.
use Rattle.std.proofs.Common.{◌≡◌, true, false, sym, subst, Result, Ok, Err, OnOk, OnErr, IfErr, IsErrAnd}
use Rattle.std.specs.Result.{is_err}

-- a result that is tested to be no error
pub if_ok : {T E P : Type 0} (result : Result T E) → is_err result ≡ false → OnOk result P → P
if_ok (Ok value) test fact = fact
if_ok (Err error) test fact = absurd (cc)

-- and one that is tested to be an error
pub if_err : {T E P : Type 0} (result : Result T E) → is_err result ≡ true → OnErr result P → P
if_err (Ok value) test fact = absurd (cc)
if_err (Err error) test fact = fact

-- an error that is handed on
pub passed_up : {T E : Type 0} (result : Result T E) (error : E) (P : E → Type 0) → IsErrAnd result (λ e. e ≡ error) → P error → IfErr result P
passed_up (Ok value) error P is fact = tt
passed_up (Err e) error P is fact = subst P (sym is) fact
