-- Each status is in the table beside its own octet, whose high four bits are the code of its action.
--     beside-octet_of        the status that is beside its own octet
--     chosen                 which way a test went
--     beside_all             what is beside a number has the property that each row has
--     action_of-beside       the action of the status beside an octet
use Rattle.std.proofs.Common.{◌≡◌, ◌⊎◌, ℕ, ◌/◌, Bool, true, false, cond, eqb, List, [], ◌∷◌, Some, refl, sym, subst, inl, inr}
use Rattle.std.proofs.lemmas.Bool.{eqb-true}
use Rattle.cfdp_status.specs.Codes.{beside, actions, status_octets, octet_of, action_of}
use Rattle.cfdp_status.specs.declared.action.Action.TheVariants.{CreateFile, DeleteFile, RenameFile, AppendFile, ReplaceFile, CreateDirectory, RemoveDirectory, DenyFile, DenyDirectory}
use Rattle.cfdp_status.specs.declared.status.Status.{Status}
use Rattle.cfdp_status.specs.declared.status.Status.TheVariants.{Successful, NotAllowed, NotPerformed, DeleteAbsent, RenameOldAbsent, RenameNewPresent, AppendFirstAbsent, AppendSecondAbsent, ReplaceFirstAbsent, ReplaceSecondAbsent, RemoveAbsent}

pub beside-octet_of : (status : Status) → beside status_octets (octet_of status) ≡ Some status
beside-octet_of (Successful CreateFile) = refl
beside-octet_of (Successful DeleteFile) = refl
beside-octet_of (Successful RenameFile) = refl
beside-octet_of (Successful AppendFile) = refl
beside-octet_of (Successful ReplaceFile) = refl
beside-octet_of (Successful CreateDirectory) = refl
beside-octet_of (Successful RemoveDirectory) = refl
beside-octet_of (Successful DenyFile) = refl
beside-octet_of (Successful DenyDirectory) = refl
beside-octet_of (NotAllowed CreateFile) = refl
beside-octet_of (NotAllowed DeleteFile) = refl
beside-octet_of (NotAllowed RenameFile) = refl
beside-octet_of (NotAllowed AppendFile) = refl
beside-octet_of (NotAllowed ReplaceFile) = refl
beside-octet_of (NotAllowed CreateDirectory) = refl
beside-octet_of (NotAllowed RemoveDirectory) = refl
beside-octet_of (NotAllowed DenyFile) = refl
beside-octet_of (NotAllowed DenyDirectory) = refl
beside-octet_of (NotPerformed CreateFile) = refl
beside-octet_of (NotPerformed DeleteFile) = refl
beside-octet_of (NotPerformed RenameFile) = refl
beside-octet_of (NotPerformed AppendFile) = refl
beside-octet_of (NotPerformed ReplaceFile) = refl
beside-octet_of (NotPerformed CreateDirectory) = refl
beside-octet_of (NotPerformed RemoveDirectory) = refl
beside-octet_of (NotPerformed DenyFile) = refl
beside-octet_of (NotPerformed DenyDirectory) = refl
beside-octet_of DeleteAbsent = refl
beside-octet_of RenameOldAbsent = refl
beside-octet_of RenameNewPresent = refl
beside-octet_of AppendFirstAbsent = refl
beside-octet_of AppendSecondAbsent = refl
beside-octet_of ReplaceFirstAbsent = refl
beside-octet_of ReplaceSecondAbsent = refl
beside-octet_of RemoveAbsent = refl

-- each row of a table has the property
abbrev pub AllRows : {A : Type 0} → (ℕ → A → Type 0) → List (ℕ × A) → Type 0
AllRows P [] = Unit {0}
AllRows P (row ∷ rows) = P row.0 row.1 × AllRows P rows

pub chosen : {A : Type 0} (b : Bool) (x y z : A) → cond b x y ≡ z → ((b ≡ true) × (x ≡ z)) ⊎ ((b ≡ false) × (y ≡ z))
chosen true x y z e = inl (refl, e)
chosen false x y z e = inr (refl, e)

-- what is beside a number has the property
pub beside_all : {A : Type 0} (P : ℕ → A → Type 0) (rows : List (ℕ × A)) (number : ℕ) (x : A) → AllRows P rows → beside rows number ≡ Some x → P number x
beside_all P [] number x all e = absurd cc
beside_all {A = A} P (row ∷ rows) number x all e =
    elim (chosen (eqb number row.0) (Some row.1) (beside rows number) (Some x) e) [
      | inl here ↦
          let number-is : number ≡ row.0 = eqb-true _ _ here.0 in
          let x-is : row.1 ≡ x = cc in
          let Q : ℕ → Type 0 = λ n. P n x in
          subst Q (sym number-is) (subst (λ (y : A). P row.0 y) x-is all.0)
      | inr there ↦ beside_all P rows number x all.1 there.1
    ]

-- the high four bits of an octet of the table are the code of the status's action
pub action_of-beside : (octet : ℕ) (status : Status) → beside status_octets octet ≡ Some status → beside actions (octet / 16) ≡ Some (action_of status)
action_of-beside octet status e = beside_all (λ n s. beside actions (n / 16) ≡ Some (action_of s)) status_octets octet status (
  refl,
  (
    refl,
    (
      refl,
      (
        refl,
        (
          refl,
          (
            refl,
            (
              refl,
              (
                refl,
                (
                  refl,
                  (
                    refl,
                    (
                      refl,
                      (
                        refl,
                        (
                          refl,
                          (
                            refl,
                            (
                              refl,
                              (
                                refl,
                                (
                                  refl,
                                  (
                                    refl,
                                    (
                                      refl,
                                      (
                                        refl,
                                        (
                                          refl,
                                          (
                                            refl,
                                            (
                                              refl,
                                              (refl, (refl, (refl, (refl, (refl, (refl, (refl, (refl, (refl, (refl, (refl, (refl, tt)))))))))))),
                                            ),
                                          ),
                                        ),
                                      ),
                                    ),
                                  ),
                                ),
                              ),
                            ),
                          ),
                        ),
                      ),
                    ),
                  ),
                ),
              ),
            ),
          ),
        ),
      ),
    ),
  ),
) e
