-- Believed: word lists that stand in files.
use Rattle.std.specs.Prelude.{◌≡◌, ℕ, List, take, Option, Some, None, option_map, Result, Err, IfSome}
use Rattle.outside.specs.Files.{Contents}
use Rattle.otp_words.specs.declared.fault.DictError.{DictError}
use Rattle.otp_words.specs.declared.fault.DictError.TheVariants as list_errors
use Rattle.otp_words.specs.declared.fault.DictFault.{DictFault}
use Rattle.otp_words.specs.Lists.{dictionary_of}
use Rattle.file_front.specs.declared.front.FrontError.{FrontError}
use Rattle.file_front.specs.declared.front.FrontError.TheVariants as front_errors
use Rattle.file_front.specs.declared.list.ListError.{ListError}
use Rattle.file_front.specs.declared.list.ListError.TheVariants as errors

-- the text of a word list: the first 16,385 bytes of its file; no list that is accepted has that many
abbrev pub list_text : Option (List ℕ) → Option (List ℕ)
list_text file = option_map (take 16385) file

-- this text was read from the named file, if the files report
abbrev pub IsTextOf : Option Contents → List ℕ → List ℕ → Type 0
IsTextOf contents name text = IfSome contents (λ files. list_text (files name) ≡ Some text)

-- the word list in the named file has these words, or this as its first fault
abbrev pub IsJudgedSo : Option Contents → List ℕ → Result (List (List ℕ)) DictFault → Type 0
IsJudgedSo contents name judgement = (text : List ℕ) × IsTextOf contents name text × (dictionary_of text ≡ judgement)

-- there is no file of this name, if the files report
abbrev pub IsMissing : Option Contents → List ℕ → Type 0
IsMissing contents name = IfSome contents (λ files. files name ≡ None)

-- why a word list wasn't read: a read failed, memory ran out, or the file is missing or refused
abbrev pub IsListFault : Option Contents → List ℕ → Type 0 → ListError → Type 0
IsListFault contents name ReadFailed errors.Failed = ReadFailed
IsListFault contents name ReadFailed errors.OutOfMemory = Unit {0}
IsListFault contents name ReadFailed errors.Missing = IsMissing contents name
IsListFault contents name ReadFailed (errors.Refused fault) = IsJudgedSo contents name (Err fault)

-- the errors that are handed on
abbrev pub error_of_front : FrontError → ListError
error_of_front front_errors.Failed = errors.Failed
error_of_front front_errors.OutOfMemory = errors.OutOfMemory

abbrev pub error_of_list : DictError → ListError
error_of_list (list_errors.Refused fault) = errors.Refused fault
error_of_list list_errors.OutOfMemory = errors.OutOfMemory
