mod Askers
