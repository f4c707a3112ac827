use Rattle.std.proofs.Common.{map, refl}
use Rattle.account_file.specs.Entries.{account_entry}
use Rattle.account_file.specs.Texts.{grant_entry}
use Rattle.account_file.proofs.EachLemmas.{handed_on, refused_on}
use Rattle.account_file.proofs.accounts.keys_of.Goals as goal

pub returns-in_err-name-clause-read : goal.returns-in_err-name-clause-read
returns-in_err-name-clause-read c = λ known.
    let name = rw c.new.ensures at c.in_err-name.ensures.read in
    refused_on account_entry c.from_residual.result c.in_err-name.field-0.0 _ c.from_residual.ensures.1 (rw (known, name) refl)

pub returns-in_err-uid-clause-read : goal.returns-in_err-uid-clause-read
returns-in_err-uid-clause-read c = λ known.
    let name = rw c.new.ensures at c.in_ok-name.ensures.read in
    let uid = rw c.new-2.ensures at c.in_err-uid.ensures.read in
    refused_on account_entry c.from_residual-in_err-uid.result c.in_err-uid.field-0.0 _ c.from_residual-in_err-uid.ensures.1 (rw (known, name, uid) refl)

pub returns-in_err-algo-clause-read : goal.returns-in_err-algo-clause-read
returns-in_err-algo-clause-read c = λ known.
    let name = rw c.new.ensures at c.in_ok-name.ensures.read in
    let uid = rw c.new-2.ensures at c.in_ok-uid.ensures.read in
    let algo = rw c.new-3.ensures at c.in_err-algo.ensures in
    refused_on account_entry c.from_residual-in_err-algo.result c.in_err-algo.field-0.0 _ c.from_residual-in_err-algo.ensures.1 (rw (known, name, uid, algo) refl)

pub returns-in_err-seed-clause-read : goal.returns-in_err-seed-clause-read
returns-in_err-seed-clause-read c = λ known.
    let name = rw c.new.ensures at c.in_ok-name.ensures.read in
    let uid = rw c.new-2.ensures at c.in_ok-uid.ensures.read in
    let algo = rw c.new-3.ensures at c.in_ok-algo.ensures in
    let seed = rw c.new-4.ensures at c.in_err-seed.ensures in
    refused_on account_entry c.from_residual-in_err-seed.result c.in_err-seed.field-0.0 _ c.from_residual-in_err-seed.ensures.1 (rw (known, name, uid, algo, seed) refl)

pub returns-in_err-sequence-clause-read : goal.returns-in_err-sequence-clause-read
returns-in_err-sequence-clause-read c = λ known.
    let name = rw c.new.ensures at c.in_ok-name.ensures.read in
    let uid = rw c.new-2.ensures at c.in_ok-uid.ensures.read in
    let algo = rw c.new-3.ensures at c.in_ok-algo.ensures in
    let seed = rw c.new-4.ensures at c.in_ok-seed.ensures in
    let sequence = rw c.new-5.ensures at c.in_err-sequence.ensures.read in
    refused_on account_entry c.from_residual-in_err-sequence.result c.in_err-sequence.field-0.0 _ c.from_residual-in_err-sequence.ensures.1 (rw (known, name, uid, algo, seed, sequence) refl)

pub returns-in_err-password-clause-read : goal.returns-in_err-password-clause-read
returns-in_err-password-clause-read c = λ known.
    let name = rw c.new.ensures at c.in_ok-name.ensures.read in
    let uid = rw c.new-2.ensures at c.in_ok-uid.ensures.read in
    let algo = rw c.new-3.ensures at c.in_ok-algo.ensures in
    let seed = rw c.new-4.ensures at c.in_ok-seed.ensures in
    let sequence = rw c.new-5.ensures at c.in_ok-sequence.ensures.read in
    let password = rw c.new-6.ensures at c.in_err-password.ensures in
    refused_on account_entry c.from_residual-in_err-password.result c.in_err-password.field-0.0 _ c.from_residual-in_err-password.ensures.1 (rw (known, name, uid, algo, seed, sequence, password) refl)

pub returns-in_err-enabled-clause-read : goal.returns-in_err-enabled-clause-read
returns-in_err-enabled-clause-read c = λ known.
    let name = rw c.new.ensures at c.in_ok-name.ensures.read in
    let uid = rw c.new-2.ensures at c.in_ok-uid.ensures.read in
    let algo = rw c.new-3.ensures at c.in_ok-algo.ensures in
    let seed = rw c.new-4.ensures at c.in_ok-seed.ensures in
    let sequence = rw c.new-5.ensures at c.in_ok-sequence.ensures.read in
    let password = rw c.new-6.ensures at c.in_ok-password.ensures in
    let enabled = rw c.new-7.ensures at c.in_err-enabled.ensures in
    refused_on account_entry c.from_residual-in_err-enabled.result c.in_err-enabled.field-0.0 _ c.from_residual-in_err-enabled.ensures.1 (rw (known, name, uid, algo, seed, sequence, password, enabled) refl)

pub returns-in_err-grants-clause-read : goal.returns-in_err-grants-clause-read
returns-in_err-grants-clause-read c = λ known.
    let name = rw c.new.ensures at c.in_ok-name.ensures.read in
    let uid = rw c.new-2.ensures at c.in_ok-uid.ensures.read in
    let algo = rw c.new-3.ensures at c.in_ok-algo.ensures in
    let seed = rw c.new-4.ensures at c.in_ok-seed.ensures in
    let sequence = rw c.new-5.ensures at c.in_ok-sequence.ensures.read in
    let password = rw c.new-6.ensures at c.in_ok-password.ensures in
    let enabled = rw c.new-7.ensures at c.in_ok-enabled.ensures in
    handed_on account_entry (map grant_entry) c.from_residual-in_err-grants.result c.in_err-grants.field-0.0 _ _ c.from_residual-in_err-grants.ensures.1 c.in_err-grants.ensures.read (λ f grants. rw (known, name, uid, algo, seed, sequence, password, enabled, grants) refl)

pub returns-clause-read : goal.returns-clause-read
returns-clause-read c = λ known.
    let name = rw c.new.ensures at c.in_ok-name.ensures.read in
    let uid = rw c.new-2.ensures at c.in_ok-uid.ensures.read in
    let algo = rw c.new-3.ensures at c.in_ok-algo.ensures in
    let seed = rw c.new-4.ensures at c.in_ok-seed.ensures in
    let sequence = rw c.new-5.ensures at c.in_ok-sequence.ensures.read in
    let password = rw c.new-6.ensures at c.in_ok-password.ensures in
    let enabled = rw c.new-7.ensures at c.in_ok-enabled.ensures in
    rw (known, name, uid, algo, seed, sequence, password, enabled, c.in_ok-grants.ensures.read) refl
