mod Tried
