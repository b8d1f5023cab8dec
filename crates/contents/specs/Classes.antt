-- Message classes: how each is spelled in an attribute, and what a property calls it.
use Rattle.std.specs.Prelude.{ℕ, zero, suc, ◌+◌, Bool, cond, ◌||◌, List, [], ◌∷◌, ◌++◌, Some, None, codes, Option}
use Rattle.source.specs.Bytes.{same_bytes}
use Rattle.scan.specs.Texts.{before_zero}
use Rattle.contents.specs.Options.{then}

abbrev pub Pair : Type 0
Pair = List ℕ × List ℕ

-- The eight pairs of an attribute value and a property value.
abbrev pub pairs : List Pair
pairs =
    (codes "IPM.Microsoft Mail.Note", codes "IPM.Note")
    ∷ ((codes "IPM.Microsoft Mail.read receipt", codes "Report.IPM.Note.IPNRN")
    ∷ ((codes "IPM.Microsoft Mail.Non-Delivery", codes "Report.IPM.Note.NDR")
    ∷ ((codes "IPM.Microsoft Schedule.MtgRespP", codes "IPM.Schedule.Meeting.Resp.Pos")
    ∷ ((codes "IPM.Microsoft Schedule.MtgRespN", codes "IPM.Schedule.Meeting.Resp.Neg")
    ∷ ((codes "IPM.Microsoft Schedule.MtgRespA", codes "IPM.Schedule.Meeting.Resp.Tent")
    ∷ ((codes "IPM.Microsoft Schedule.MtgReq", codes "IPM.Schedule.Meeting.Request")
    ∷ ((codes "IPM.Microsoft Schedule.MtgCncl", codes "IPM.Schedule.Meeting.Canceled")
    ∷ [])))))))

-- What older writers put before an attribute value.
abbrev pub old_prefix : List ℕ
old_prefix = codes "Microsoft Mail v3.0"

abbrev pub means_pair : List ℕ → Pair → Bool
means_pair t p = same_bytes t p.0 || same_bytes t p.1 || same_bytes t (old_prefix ++ p.0)

-- The number of the first pair that t means, counted from k.
abbrev pub pair_from : List ℕ → List Pair → ℕ → Option ℕ
pair_from t [] k = None
pair_from t (p ∷ ps) k = cond (means_pair t p) (Some k) (pair_from t ps (k + 1))

-- The pair that a text means, 1 to 8, if it means one.
unfoldable pub pair_number : List ℕ → Option ℕ
pair_number t = pair_from t pairs 1

abbrev pub pair_of : List ℕ → Option ℕ
pair_of xs = then (before_zero xs) pair_number

-- The attribute value of pair k.
abbrev pub class_text : List Pair → ℕ → List ℕ
class_text [] k = []
class_text (p ∷ ps) zero = []
class_text (p ∷ ps) (suc zero) = p.0
class_text (p ∷ ps) (suc (suc k)) = class_text ps (suc k)
