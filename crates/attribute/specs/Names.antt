use Rattle.std.specs.Prelude.{ℕ, cond, List, [], ◌∷◌, codes, ◌==◌}

-- What the attributes are called, by their ids.
abbrev pub names : List (ℕ × List ℕ)
names =
    (0x00008000, codes "attFrom")
    ∷ ((0x00018004, codes "attSubject")
    ∷ ((0x00018009, codes "attMessageID")
    ∷ ((0x0002800C, codes "attBody")
    ∷ ((0x00030006, codes "attDateStart")
    ∷ ((0x00030007, codes "attDateEnd")
    ∷ ((0x00038005, codes "attDateSent")
    ∷ ((0x00038006, codes "attDateRecd")
    ∷ ((0x00038020, codes "attDateModified")
    ∷ ((0x00040009, codes "attRequestRes")
    ∷ ((0x0004800D, codes "attPriority")
    ∷ ((0x00050008, codes "attAidOwner")
    ∷ ((0x00060000, codes "attOwner")
    ∷ ((0x00060001, codes "attSentFor")
    ∷ ((0x00060200, codes "attDelegate")
    ∷ ((0x00068007, codes "attMessageStatus")
    ∷ ((0x00070600, codes "attOriginalMessageClass")
    ∷ ((0x00078008, codes "attMessageClass")
    ∷ ((0x00018010, codes "attAttachTitle")
    ∷ ((0x00038012, codes "attAttachCreateDate")
    ∷ ((0x00038013, codes "attAttachModifyDate")
    ∷ ((0x0006800F, codes "attAttachData")
    ∷ ((0x00068011, codes "attAttachMetaFile")
    ∷ ((0x00069001, codes "attAttachTransportFilename")
    ∷ ((0x00069002, codes "attAttachRendData")
    ∷ ((0x00069003, codes "attMsgProps")
    ∷ ((0x00069004, codes "attRecipTable")
    ∷ ((0x00069005, codes "attAttachment")
    ∷ ((0x00069007, codes "attOemCodepage")
    ∷ ((0x00089006, codes "attTnefVersion")
    ∷ [])))))))))))))))))))))))))))))

abbrev pub name_in : List (ℕ × List ℕ) → ℕ → List ℕ
name_in [] i = []
name_in (n ∷ rest) i = cond (n.0 == i) n.1 (name_in rest i)

abbrev pub name_of : ℕ → List ℕ
name_of i = name_in names i
